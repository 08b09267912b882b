-- The slot of a bound thread comes into the heaps.
use Rattle.std.proofs.Common.{◌≡◌, ℕ, true, false, List, [], ◌∷◌, ◌++◌, Some, is_some, refl, sym, ap, ◌∙◌, subst, inl, inr, arith}
use Rattle.std.specs.Prelude.{slice_index_or, slice_set}
use Rattle.std.proofs.lemmas.Bool.{not-true, true≢false}
use Rattle.std.proofs.lemmas.List.{length-set}
use Rattle.std.proofs.lemmas.List.Elements.{Contains-append_left, Contains-push_cases}
use Rattle.sched_base.specs.Bucket.{index}
use Rattle.sched_base.specs.declared.Bucket.{Bucket}
use Rattle.flat_policy.specs.Policy.Queue.{Flat, Queued, in_lane, lane, lane_entries}
use Rattle.link_arena.specs.Arena.{Arena, value_at}
use Rattle.pairing_heap.specs.Laws.{HeldAreLive}
use Rattle.thread_queue.specs.Item.{entry_of, key_of_item, key_precedes}
use Rattle.thread_queue.specs.Laws.{PushedIsHeld, PushedStaysApart, QueuesApart, StaysIn}
use Rattle.thread_queue.specs.Queue.{LacksSlot, Pushes, Queue, StandsIn}
use Rattle.thread_queue.specs.declared.item.Item.{Item}
use Rattle.clutch_bucket.specs.Lane.{IsNew, queue_at}
use Rattle.clutch_bucket.specs.Laws.{LanesStay, SlotsStay}
use Rattle.stealing.specs.Laws.{OffersByUnbound, SameUnbound, StaysIn as ForeignStaysIn, StaysWhereSlotsStay}
use Rattle.cluster_queue.specs.Heaps.{BoundFollows, HeapsFollow, bound_at, lane_at}
use Rattle.cluster_queue.specs.Moves.{CanEnter, Enters}
use Rattle.cluster_queue.specs.declared.heaps.Heaps.{Heaps}
use Rattle.cluster_queue.proofs.Apart.{bounds_apart, holds_follow, lane_lacks_bound}
use Rattle.cluster_queue.proofs.BoundLanes.{bound_pushed, bound_stays}
use Rattle.cluster_queue.proofs.Buckets.{cases_bucket, in_lane_from}
use Rattle.cluster_queue.proofs.Fresh.{new_lacks_bound, new_lacks_lane}
use Rattle.cluster_queue.proofs.OneMore.{comes_last, not_there, numbers_bound, one_more_bound, with_bound}
use Rattle.cluster_queue.proofs.OtherLanes.{lane_stays, other_bucket, other_flag}
use Rattle.cluster_queue.proofs.Places.{bound_here, bound_read, bound_there}
use Rattle.cluster_queue.proofs.Slots.{one_item}
use Rattle.cluster_queue.proofs.Members.{kept_member}

-- a list has the same unbound entries with a bound one more
same_unbound : (es : List Queued) (e : Queued) → is_some e.facts.bound ≡ true → SameUnbound es (es ++ e ∷ [])
same_unbound es e bound = record {
  there = λ x unbound c. Contains-append_left es (e ∷ []) x c;
  back = λ x unbound c. elim (Contains-push_cases es e x c) [
    | inl d ↦ d
    | inr is ↦ absurd (true≢false (sym bound ∙ (ap (λ (q : Queued). is_some q.facts.bound) is ∙ not-true (is_some x.facts.bound) unbound)))
  ];
}

module _ (held : PushedIsHeld) (law : PushedStaysApart) (live : HeldAreLive 0 key_of_item key_precedes) (stay : LanesStay) (alike : StaysWhereSlotsStay) (offers : OffersByUnbound) where
  pub bound_follows : (old new : Arena Item) (before : Heaps) (count : ℕ) (s : Flat) (b : Bucket) (queue : Queue) (slot : ℕ) (item : Item) → HeapsFollow old before count s
      → value_at old slot ≡ Some item → IsNew s item → item.thread.bucket ≡ b → is_some item.thread.bound ≡ true → Pushes old new (bound_at before b) queue slot
      → HeapsFollow new (record before { bound = slice_set before.bound (index b) queue }) count (record s { entries = s.entries ++ entry_of item ∷ [] })
  bound_follows old new before count s b queue slot item f stored fresh own bound pushes =
      let e = entry_of item in
      let next : Flat = record s { entries = s.entries ++ e ∷ [] } in
      let later : Heaps = record before { bound = slice_set before.bound (index b) queue } in
      let kept = pushes.adds.kept in
      let h = holds_follow old before count s f in
      let other_stays : (other : Queue) → StandsIn old other → QueuesApart old (bound_at before b) other → LacksSlot old other slot → StaysIn old new other
      = λ other there apart lacks. (law old new (bound_at before b) queue slot (ap is_some stored) (f.bound b).stands pushes other there apart lacks).stays in
      let lane_slots : (c : Bucket) → SlotsStay old new (lane_at before c) = λ c. record {
        queues = λ g within. other_stays (queue_at (lane_at before c) g) ((f.lanes c).follows.stands.units.each g within).stands
            (λ x has. lane_lacks_bound live old before h b c x has g within)
            (new_lacks_lane old before count s f slot item stored fresh c g within);
        values = λ x has. kept.values x;
      } in
      let foreign : ForeignStaysIn old new before.foreign = alike old new before.foreign f.foreign.stands
      (record { values = λ to x has. kept.values x; links = λ to x has. kept.other_set 1 x (λ is. omega (arith, is)) }) in
      let here : BoundFollows new (bound_at later b) (lane_entries next (lane b true)) =
      subst (λ (q : Queue). BoundFollows new q (lane_entries next (lane b true))) (sym (bound_here before b queue f.six))
      (subst (BoundFollows new queue) (sym (comes_last (in_lane (lane b true)) s.entries e (in_lane_from b true e own bound)))
      (bound_pushed held old new (bound_at before b) queue slot item (lane_entries s (lane b true)) pushes stored
      (λ x c. fresh x (kept_member (in_lane (lane b true)) s.entries x c).0) (f.bound b))) in
      record {
        six = record { lanes = f.six.lanes; bound = length-set before.bound (index b) queue ∙ f.six.bound };
        lanes = λ c. lane_stays stay old new (lane_at before c) count c s next e (f.lanes c) (lane_slots c) (one_more_bound s e) (numbers_bound s e c)
            (other_flag c false e (λ is. true≢false (sym bound ∙ is)));
        bound = λ c. elim (cases_bucket b c) [
          | inl same ↦ subst (λ (d : Bucket). BoundFollows new (bound_at later d) (lane_entries next (lane d true))) same here
          | inr n ↦ subst (λ (q : Queue). BoundFollows new q (lane_entries next (lane c true))) (sym (bound_there before b c queue n))
              (subst (BoundFollows new (bound_at before c)) (sym (not_there (in_lane (lane c true)) s.entries e (other_bucket c true e (λ is. n (sym own ∙ is)))))
              (bound_stays old new (bound_at before c) (lane_entries s (lane c true)) kept.values
              (other_stays (bound_at before c) (f.bound c).stands (λ x has. bounds_apart live old before h b c x n has) (new_lacks_bound old before count s f slot item stored fresh c))
              (f.bound c)))
        ];
        foreign = offers new before.foreign s.entries next.entries (same_unbound s.entries e bound) (foreign.offers s.entries f.foreign);
        loose = λ x lacks. kept.other_set 1 x (λ is. omega (arith, is)) ∙ f.loose x (λ to. sym (foreign.slots to x) ∙ lacks to);
      }

  -- by the item that was read, and the queue at its bucket's index
  pub bound_enters : (old new : Arena Item) (before : Heaps) (i slot ran blocked turns : ℕ) (d queue : Queue) (read : Item) → value_at old slot ≡ Some read → i ≡ index read.thread.bucket
      → is_some read.thread.bound ≡ true → Pushes old new (slice_index_or before.bound i d) queue slot → Enters old new before (record before { bound = slice_set before.bound i queue }) slot ran blocked turns turns
  bound_enters old new before i slot ran blocked turns d queue read stored at bound pushes =
      let flag = λ (can : CanEnter old before slot). ap (λ (x : Item). is_some x.thread.bound) (one_item old slot can.item read can.stored stored) ∙ bound in
      record {
        follows = λ can same. (
            let b = can.item.thread.bucket in
            let is : i ≡ index b = at ∙ ap (λ (x : Item). index x.thread.bucket) (one_item old slot read can.item stored can.stored) in
            let there = subst (λ (q : Queue). Pushes old new q queue slot) (bound_read before b i d can.follows.six is) pushes in
            subst (HeapsFollow new (record before { bound = slice_set before.bound i queue }) can.count) (sym (with_bound ran blocked can.item can.s (flag can)))
            (subst (λ (j : ℕ). HeapsFollow new (record before { bound = slice_set before.bound j queue }) can.count (record can.s { entries = can.s.entries ++ entry_of can.item ∷ [] })) (sym is)
            (bound_follows old new before can.count can.s b queue slot can.item can.follows can.stored can.fresh refl (flag can) there)));
        turn = λ can same. same ∙ ap (λ (x : Flat). x.next_turn) (sym (with_bound ran blocked can.item can.s (flag can)));
        values = pushes.adds.kept.values;
        spare = pushes.adds.kept.spare;
        room = refl;
      }
