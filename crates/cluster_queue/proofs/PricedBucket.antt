-- After both lanes of a bucket are priced anew: the lanes and bound queues follow the queue with its turns.
use Rattle.std.proofs.Common.{◌≡◌, ◌≢◌, ℕ, ◌+◌, Bool, true, cond, List, map, sym, subst, inl, inr}
use Rattle.std.specs.Prelude.{slice_set}
use Rattle.std.proofs.lemmas.Bool.{true≢false}
use Rattle.sched_base.specs.Bucket.{index}
use Rattle.sched_base.specs.declared.Bucket.{Bucket}
use Rattle.sched_base.specs.declared.Bucket.TheVariants.{Ui}
use Rattle.flat_policy.specs.Laws.Refreshing.{with_turns_of}
use Rattle.flat_policy.specs.Policy.Queue.{Flat, Queued, lane, lane_entries}
use Rattle.link_arena.specs.Arena.{Arena}
use Rattle.thread_queue.specs.Queue.{Queue}
use Rattle.thread_queue.specs.declared.item.Item.{Item}
use Rattle.clutch_bucket.specs.Lane.{Lane}
use Rattle.clutch_bucket.specs.Laws.{BoundLanesArePriced, BoundPriced, LanesStay}
use Rattle.clutch_bucket.specs.Repricing.{Reprices}
use Rattle.cluster_queue.specs.Heaps.{BoundFollows, LaneFollows, bound_at, lane_at}
use Rattle.cluster_queue.specs.Refreshing.{is_done, priced_upto}
use Rattle.cluster_queue.specs.declared.heaps.Heaps.{Heaps}
use Rattle.cluster_queue.proofs.Places.{bound_here, bound_there, lane_here, lane_there}
use Rattle.cluster_queue.proofs.Buckets.{cases_bucket}
use Rattle.cluster_queue.proofs.PricedEntries.{own_done}
use Rattle.cluster_queue.proofs.PricedKinds.{ChangesKind, kind_kept, lane_kept}
use Rattle.cluster_queue.proofs.PricedLane.{FirstStep, bound_stands, lane_beside, lane_done, queue_kind, queue_stays}
use Rattle.cluster_queue.proofs.PricedLists.{lane_after, lane_beside as entries_beside}
use Rattle.cluster_queue.proofs.PricedSteps.{bound_changes}
use Rattle.cluster_queue.proofs.Staying.{bound_kept, clutches_same}

-- its bound queue is priced anew, too
pub record BothSteps (start old mid new : Arena Item) (before : Heaps) (at : Lane) (queue : Queue) (b : Bucket) (count now turns turned told : ℕ) (s p : Flat) : Type 0 where
  pub first : FirstStep start old mid before at b count now turns turned told s p
  pub bounds : BoundLanesArePriced
  pub ui : b ≢ Ui
  pub step : Reprices mid new (bound_at before b) queue now

module _ {start old mid new : Arena Item} {before : Heaps} {at : Lane} {queue : Queue} {b : Bucket} {count now turns turned told : ℕ} {s p : Flat} (o : BothSteps start old mid new before at queue b count now turns turned told s p) where
  pub bound_changed : ChangesKind mid new true b
  bound_changed = bound_changes o.first.live mid new (bound_at before b) queue now b (queue_kind o.first b) o.step

  pub bound_done : BoundPriced mid new (bound_at before b) queue now s b
  bound_done = o.bounds mid new (bound_at before b) queue now s b o.ui o.first.formed.arrivals_rise (bound_stands o.first) o.step

  -- the lane of the bucket, and each other
  lane_here_now : LanesStay → turns ≡ p.next_turn → LaneFollows new at count b (cond (is_done (index b + 1) b) (with_turns_of count s p b) s)
  lane_here_now stay turn =
      let next : Flat = with_turns_of count s p b in
      subst (λ (x : Bool). LaneFollows new at count b (cond x next s)) (sym (own_done b o.ui))
      (lane_kept stay mid new at count true b b next next bound_changed (λ x y. true≢false (sym x)) (lane_done o.first turn) (clutches_same at next))

  lane_there_now : LanesStay → (c : Bucket) → c ≢ b → LaneFollows new (lane_at before c) count c (cond (is_done (index b + 1) c) (with_turns_of count s p b) s)
  lane_there_now stay c n =
      let next : Flat = cond (is_done (index b + 1) c) (with_turns_of count s p b) s in
      lane_kept stay mid new (lane_at before c) count true b c next next bound_changed (λ x y. true≢false (sym x)) (lane_beside o.first stay c n) (clutches_same (lane_at before c) next)

  pub lanes_now : LanesStay → turns ≡ p.next_turn → (c : Bucket) → LaneFollows new (lane_at (record before { lanes = slice_set before.lanes (index b) at }) c) count c (cond (is_done (index b + 1) c) (with_turns_of count s p b) s)
  lanes_now stay turn c =
      let next : Flat = with_turns_of count s p b in
      elim (cases_bucket b c) [
        | inl is ↦ subst (λ (d : Bucket). LaneFollows new (lane_at (record before { lanes = slice_set before.lanes (index b) at }) d) count d (cond (is_done (index b + 1) d) next s)) is
            (subst (λ (l : Lane). LaneFollows new l count b (cond (is_done (index b + 1) b) next s)) (sym (lane_here before b at o.first.priced.six)) (lane_here_now stay turn))
        | inr n ↦ subst (λ (l : Lane). LaneFollows new l count c (cond (is_done (index b + 1) c) next s)) (sym (lane_there before b c at n)) (lane_there_now stay c (λ e. n (sym e)))
      ]

  -- the bound queue of the bucket, and each other
  queue_here_now : BoundFollows new queue (map (priced_upto s now (index b + 1)) (lane_entries s (lane b true)))
  queue_here_now =
      subst (λ (es : List Queued). BoundFollows new queue es) (sym (lane_after s now b true o.ui))
      (record { stands = o.step.stands; entries = bound_done.entries; count = bound_done.count; apart = bound_done.apart })

  queue_there_now : (c : Bucket) → c ≢ b → BoundFollows new (bound_at before c) (map (priced_upto s now (index b + 1)) (lane_entries s (lane c true)))
  queue_there_now c n =
      subst (λ (es : List Queued). BoundFollows new (bound_at before c) es) (entries_beside s now b c true n)
      (bound_kept mid new (bound_at before c) (map (priced_upto s now (index b)) (lane_entries s (lane c true)))
      (kind_kept mid new true true b c (bound_at before c) bound_changed (queue_kind o.first c) (λ x y. n y)) (queue_stays o.first c))

  pub queues_now : (c : Bucket) → BoundFollows new (bound_at (record before { bound = slice_set before.bound (index b) queue }) c) (map (priced_upto s now (index b + 1)) (lane_entries s (lane c true)))
  queues_now c =
      elim (cases_bucket b c) [
        | inl is ↦ subst (λ (d : Bucket). BoundFollows new (bound_at (record before { bound = slice_set before.bound (index b) queue }) d) (map (priced_upto s now (index b + 1)) (lane_entries s (lane d true)))) is
            (subst (λ (q : Queue). BoundFollows new q (map (priced_upto s now (index b + 1)) (lane_entries s (lane b true)))) (sym (bound_here before b queue o.first.priced.six)) queue_here_now)
        | inr n ↦ subst (λ (q : Queue). BoundFollows new q (map (priced_upto s now (index b + 1)) (lane_entries s (lane c true)))) (sym (bound_there before b c queue n)) (queue_there_now c (λ e. n (sym e)))
      ]
