-- The slot of an unbound thread comes into the heaps: into a unit of its lane first, and then into the heap of its preferred cluster.
use Rattle.std.proofs.Common.{◌≡◌, ◌≢◌, ℕ, true, false, List, [], ◌∷◌, ◌++◌, Some, filter, is_some, refl, sym, ap, ◌∙◌, subst, inl, inr, arith}
use Rattle.std.specs.Prelude.{slice_set}
use Rattle.std.proofs.lemmas.Bool.{cases_eq, true≢false}
use Rattle.std.proofs.lemmas.List.{length-set}
use Rattle.sched_base.specs.Bucket.{index}
use Rattle.sched_base.specs.declared.Bucket.{Bucket}
use Rattle.flat_policy.specs.Policy.Queue.{Flat, Queued, in_lane, lane, lane_entries}
use Rattle.link_arena.specs.Arena.{Arena, links_at, value_at}
use Rattle.pairing_heap.specs.Laws.{HeldAreLive}
use Rattle.thread_queue.specs.Item.{entry_of, key_of_item, key_precedes}
use Rattle.thread_queue.specs.Laws.{StaysIn, StaysWhereOtherSetChanges}
use Rattle.thread_queue.specs.Queue.{LacksSlot, Queue, StandsIn}
use Rattle.thread_queue.specs.declared.item.Item.{Item}
use Rattle.clutch_bucket.specs.Lane.{Follows, IsApartFrom, IsNew, Lane, OnlyQueuesChange, OtherQueuesStayBut, SameGroups, queue_at, with_unit_entry}
use Rattle.clutch_bucket.specs.Laws.{LanesStay, SlotsStay}
use Rattle.stealing.specs.Foreign.{LacksSlot as ForeignLacks, OffersEntries, Pushes, Roots, StandsIn as ForeignStandsIn, times_in}
use Rattle.stealing.specs.Laws.{StaysIn as ForeignStaysIn, StaysWhereSlotsStay}
use Rattle.cluster_queue.specs.Heaps.{BoundFollows, HeapsFollow, LaneFollows, bound_at, lane_at}
use Rattle.cluster_queue.specs.declared.heaps.Heaps.{Heaps}
use Rattle.cluster_queue.proofs.Apart.{bound_apart, holds_follow, units_apart}
use Rattle.cluster_queue.proofs.BoundLanes.{AllStay, bound_stays}
use Rattle.cluster_queue.proofs.Buckets.{cases_bucket}
use Rattle.cluster_queue.proofs.Fresh.{new_lacks_bound, new_lacks_lane}
use Rattle.cluster_queue.proofs.OneMore.{not_there, numbers_unbound, one_more_unbound}
use Rattle.cluster_queue.proofs.OtherLanes.{lane_stays, other_bucket, other_flag}
use Rattle.cluster_queue.proofs.Places.{lane_here, lane_there}

-- the heaps of foreign threads stay where a slot comes into a lane
pub foreign_stays : StaysWhereSlotsStay → (old mid : Arena Item) (roots : Roots) → OnlyQueuesChange old mid → ForeignStandsIn old roots → ForeignStaysIn old mid roots
foreign_stays alike old mid roots arena stands = alike old mid roots stands (record { values = λ to x has. arena.values x; links = λ to x has. arena.second x })

-- what came into the lane of a bucket, and then into a heap of foreign threads
pub record EntersBoth (old mid new : Arena Item) (before : Heaps) (b : Bucket) (at : Lane) (roots : Roots) (slot : ℕ) : Type 0 where
  pub groups : SameGroups (lane_at before b) at
  pub arena : OnlyQueuesChange old mid
  pub queues : OtherQueuesStayBut old mid (lane_at before b) at slot
  pub pushes : Pushes mid new before.foreign roots slot

module _ (old mid new : Arena Item) (before : Heaps) (b : Bucket) (at : Lane) (roots : Roots) (slot : ℕ) (x : EntersBoth old mid new before b at roots slot) where
  all_stay : AllStay old new
  all_stay other = x.pushes.kept.values other ∙ x.arena.values other

  -- queues of other lanes
  others_stay : StaysWhereOtherSetChanges → (other : Queue) → StandsIn old other → IsApartFrom old (lane_at before b) other → LacksSlot old other slot → StaysIn old new other
  others_stay beside other there apart lacks =
      let one = (x.queues other there apart lacks).stays in
      let two = beside mid new 1 (times_in new roots x.pushes.item.thread.prefer) (λ is. omega (arith, is)) x.pushes.kept other one.stands in
      record { stands = two.stands; same = two.same ∙ one.same }

  -- a slot of no heap was one of none
  lacked : (other : ℕ) → ForeignLacks new roots other → ForeignLacks mid before.foreign other
  lacked other lacks = λ to. elim (cases_eq to x.pushes.item.thread.prefer) [
    | inl is ↦ subst (λ (n : ℕ). times_in mid before.foreign n other ≡ 0) (sym is)
        (omega (arith, x.pushes.here other, lacks x.pushes.item.thread.prefer))
    | inr n ↦ sym (x.pushes.others to n other) ∙ lacks to
  ]

  links_stay : (other : ℕ) → ForeignLacks new roots other → links_at new 1 other ≡ links_at old 1 other
  links_stay other lacks = x.pushes.kept.elsewhere other (lacks x.pushes.item.thread.prefer) ∙ x.arena.second other

  -- the lane's units stay in the second step
  here_follows : StaysWhereOtherSetChanges → LanesStay → (next : Flat) → Follows mid at next → Follows new at next
  here_follows beside stay next f =
      let slots : SlotsStay mid new at = record {
        queues = λ g within. (
            let kept = beside mid new 1 (times_in new roots x.pushes.item.thread.prefer) (λ is. omega (arith, is)) x.pushes.kept (queue_at at g) (f.stands.units.each g within).stands in
            record { stands = kept.stands; same = kept.same });
        values = λ other has. x.pushes.kept.values other;
      } in
      stay mid new at next next f slots (record {
        each = λ g within. record { entries = refl; spans = refl; turn = refl };
        len = refl;
        span_places = refl;
        turn_places = refl;
      })

pub unbound_follows : HeldAreLive 0 key_of_item key_precedes → StaysWhereOtherSetChanges → LanesStay → StaysWhereSlotsStay → (old mid new : Arena Item) (before : Heaps) (count : ℕ) (s : Flat) (b : Bucket) (at : Lane) (roots : Roots) (slot ran blocked : ℕ) (item : Item)
    → HeapsFollow old before count s → value_at old slot ≡ Some item → IsNew s item → item.thread.bucket ≡ b → is_some item.thread.bound ≡ false → EntersBoth old mid new before b at roots slot
    → Follows mid at (with_unit_entry ran blocked item s) → OffersEntries new roots (s.entries ++ entry_of item ∷ [])
    → HeapsFollow new (record before { lanes = slice_set before.lanes (index b) at; foreign = roots }) count (with_unit_entry ran blocked item s)
unbound_follows live beside stay alike old mid new before count s b at roots slot ran blocked item f stored fresh own unbound x follows offers =
    let e = entry_of item in
    let next = with_unit_entry ran blocked item s in
    let later : Heaps = record before { lanes = slice_set before.lanes (index b) at; foreign = roots } in
    let more = one_more_unbound ran blocked item s in
    let h = holds_follow old before count s f in
    let foreign = foreign_stays alike old mid before.foreign x.arena f.foreign.stands in
    let here : LaneFollows new at count b next = record {
      bucket = x.groups.bucket ∙ (f.lanes b).bucket;
      groups = x.groups.groups ∙ (f.lanes b).groups;
      follows = here_follows old mid new before b at roots slot x beside stay next follows;
    } in
    let lane_slots : (c : Bucket) → b ≢ c → SlotsStay old new (lane_at before c) = λ c n. record {
      queues = λ g within. others_stay old mid new before b at roots slot x beside (queue_at (lane_at before c) g) ((f.lanes c).follows.stands.units.each g within).stands
          (units_apart live old before h b c g n within) (new_lacks_lane old before count s f slot item stored fresh c g within);
      values = λ other has. all_stay old mid new before b at roots slot x other;
    } in
    record {
      six = record { lanes = length-set before.lanes (index b) at ∙ f.six.lanes; bound = f.six.bound };
      lanes = λ c. elim (cases_bucket b c) [
        | inl same ↦ subst (λ (d : Bucket). LaneFollows new (lane_at later d) count d next) same
            (subst (λ (l : Lane). LaneFollows new l count b next) (sym (lane_here before b at f.six)) here)
        | inr n ↦ subst (λ (l : Lane). LaneFollows new l count c next) (sym (lane_there before b c at n))
            (lane_stays stay old new (lane_at before c) count c s next e (f.lanes c) (lane_slots c n) more
            (numbers_unbound ran blocked item s c (λ is. n (sym own ∙ is))) (other_bucket c false e (λ is. n (sym own ∙ is))))
      ];
      bound = λ c. (
          let none = not_there (in_lane (lane c true)) s.entries e (other_flag c true e (λ is. true≢false (sym is ∙ unbound))) in
          subst (λ (es : List Queued). BoundFollows new (bound_at before c) es) (sym (ap (filter (in_lane (lane c true))) more.entries ∙ none))
          (bound_stays old new (bound_at before c) (lane_entries s (lane c true)) (all_stay old mid new before b at roots slot x)
          (others_stay old mid new before b at roots slot x beside (bound_at before c) (f.bound c).stands (bound_apart live old before h b c) (new_lacks_bound old before count s f slot item stored fresh c))
          (f.bound c)));
      foreign = subst (OffersEntries new roots) (sym more.entries) offers;
      loose = λ other lacks. (
          let was = lacked old mid new before b at roots slot x other lacks in
          links_stay old mid new before b at roots slot x other lacks ∙ f.loose other (λ to. sym (foreign.slots to other) ∙ was to));
    }
