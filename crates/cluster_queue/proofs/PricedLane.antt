-- After the unbound lane of a bucket is priced anew: its bound queue stands as before, and the lane follows the queue with its turns.
use Rattle.std.proofs.Common.{◌≡◌, ◌≢◌, ℕ, ◌+◌, ◌≤◌, Bool, true, false, cond, List, Some, count_by, length, map, sym, ap, ◌∙◌, subst, arith}
use Rattle.std.proofs.lemmas.Bool.{true≢false}
use Rattle.std.proofs.lemmas.List.Sums.{count_by-le-length}
use Rattle.sched_base.specs.Bucket.{index}
use Rattle.sched_base.specs.Limits.{most_threads}
use Rattle.sched_base.specs.declared.Bucket.{Bucket}
use Rattle.flat_policy.specs.Laws.Refreshing.{with_turns_of}
use Rattle.flat_policy.specs.Policy.Queue.{Flat, Queued, in_lane, lane, lane_entries}
use Rattle.flat_policy.specs.Policy.WellFormed.{WellFormed}
use Rattle.link_arena.specs.Arena.{Arena, value_at}
use Rattle.pairing_heap.specs.Laws.{HeldAreLive}
use Rattle.thread_queue.specs.Item.{key_of_item, key_precedes}
use Rattle.thread_queue.specs.Queue.{HasSlot}
use Rattle.thread_queue.specs.declared.item.Item.{Item}
use Rattle.clutch_bucket.specs.Lane.{Follows, Lane, LanePriced, groups}
use Rattle.clutch_bucket.specs.Laws.{BoundStands, LanesStay}
use Rattle.cluster_queue.specs.Heaps.{BoundFollows, ItemFits, LaneFollows, bound_at, lane_at}
use Rattle.cluster_queue.specs.Refreshing.{PricedUpTo, is_changed, is_done, priced_upto}
use Rattle.cluster_queue.specs.declared.heaps.Heaps.{Heaps}
use Rattle.cluster_queue.proofs.PricedEntries.{own_not_done}
use Rattle.cluster_queue.proofs.PricedItems.{bound_kind}
use Rattle.cluster_queue.proofs.PricedKinds.{ChangesKind, OfKind, kind_kept, lane_kept}
use Rattle.cluster_queue.proofs.PricedLists.{lane_before}
use Rattle.cluster_queue.proofs.PricedSteps.{LaneStep, lane_changes}
use Rattle.cluster_queue.proofs.PricedTurns.{clutches_by_turn, lane_prices, only_turns}
use Rattle.cluster_queue.proofs.Slots.{has_before}
use Rattle.cluster_queue.proofs.Staying.{KeepsItems, bound_kept}
use Rattle.cluster_queue.proofs.Passing.{filter_most}

-- a lane has no more entries than the queue
pub lane_few : (count : ℕ) (s : Flat) (b : Bucket) (bound : Bool) → WellFormed count s → length (lane_entries s (lane b bound)) ≤ most_threads
lane_few count s b bound formed =
    let fewer = filter_most (in_lane (lane b bound)) s.entries in
    omega (arith, fewer, formed.few)

-- before the bucket is priced anew
module _ (start old : Arena Item) (before : Heaps) (b : Bucket) (count now : ℕ) (s p : Flat) (priced : PricedUpTo start old before count now s p (index b)) where
  pub lane_waits : LaneFollows old (lane_at before b) count b s
  lane_waits = subst (λ (x : Bool). LaneFollows old (lane_at before b) count b (cond x p s)) (own_not_done b) (priced.lanes b)

  pub bound_waits : BoundFollows old (bound_at before b) (lane_entries s (lane b true))
  bound_waits = subst (λ (es : List Queued). BoundFollows old (bound_at before b) es) (lane_before s now b true) (priced.bound b)

  pub bound_few : WellFormed count s → (bound_at before b).count ≤ most_threads
  bound_few formed = let few = lane_few count s b true formed in omega (arith, few, bound_waits.count)

-- its unbound lane is priced anew, where those of the buckets below are
pub record FirstStep (start old mid : Arena Item) (before : Heaps) (at : Lane) (b : Bucket) (count now turns turned told : ℕ) (s p : Flat) : Type 0 where
  pub live : HeldAreLive 0 key_of_item key_precedes
  pub formed : WellFormed count s
  pub priced : PricedUpTo start old before count now s p (index b)
  pub step : LaneStep old mid (lane_at before b) at now turns turned told

module _ {start old mid : Arena Item} {before : Heaps} {at : Lane} {b : Bucket} {count now turns turned told : ℕ} {s p : Flat} (o : FirstStep start old mid before at b count now turns turned told s p) where
  pub waits : LaneFollows old (lane_at before b) count b s
  waits = lane_waits start old before b count now s p o.priced

  pub lane_kind : ChangesKind old mid false b
  lane_kind = lane_changes o.live old mid (lane_at before b) at now turns turned told b waits.bucket waits.follows.stands.units o.step

  -- the bound queues stay
  pub queue_kept : (c : Bucket) → KeepsItems old mid (bound_at before c)
  queue_kept c = kind_kept old mid false true b c (bound_at before c) lane_kind (bound_kind old (bound_at before c) s now (index b) c (o.priced.bound c)) (λ x y. true≢false x)

  pub queue_stays : (c : Bucket) → BoundFollows mid (bound_at before c) (map (priced_upto s now (index b)) (lane_entries s (lane c true)))
  queue_stays c = bound_kept old mid (bound_at before c) (map (priced_upto s now (index b)) (lane_entries s (lane c true))) (queue_kept c) (o.priced.bound c)

  pub queue_kind : (c : Bucket) → OfKind mid (bound_at before c) true c
  queue_kind c = bound_kind mid (bound_at before c) s now (index b) c (queue_stays c)

  still_fits : (slot : ℕ) (item : Item) → HasSlot mid (bound_at before b) slot → value_at mid slot ≡ Some item → ItemFits count item
  still_fits slot item has stored =
      let kept = queue_kept b in
      o.priced.fits slot item (sym (kept.values slot (has_before old mid (bound_at before b) slot kept.stays has)) ∙ stored)

  pub bound_stands : BoundStands mid (bound_at before b) s b
  bound_stands =
      let still = bound_kept old mid (bound_at before b) (lane_entries s (lane b true)) (queue_kept b) (bound_waits start old before b count now s p o.priced) in
      record {
        stands = still.stands;
        entries = still.entries;
        count = still.count;
        apart = still.apart;
        ran = λ slot item has stored. (still_fits slot item has stored).ran;
        blocked = λ slot item has stored. (still_fits slot item has stored).blocked;
      }

  -- the lane follows the queue with its turns
  pub formed_at : WellFormed (groups (lane_at before b)) s
  formed_at = subst (λ (m : ℕ). WellFormed m s) (sym waits.groups) o.formed

  prices_at : LanePriced (groups (lane_at before b)) now s p (lane_at before b).bucket
  prices_at =
      subst (λ (m : ℕ). LanePriced m now s p (lane_at before b).bucket) (sym waits.groups)
      (subst (λ (c : Bucket). LanePriced count now s p c) (sym waits.bucket) (lane_prices count now s p b o.priced.prices))

  pub takes_turns : turns ≡ p.next_turn → Follows mid at (with_turns_of count s p b) × (turned ≡ (with_turns_of count s p b).next_turn)
  takes_turns turn =
      subst (λ (m : ℕ). Follows mid at (with_turns_of m s p b) × (turned ≡ (with_turns_of m s p b).next_turn)) waits.groups
      (subst (λ (c : Bucket). Follows mid at (with_turns_of (groups (lane_at before b)) s p c) × (turned ≡ (with_turns_of (groups (lane_at before b)) s p c).next_turn)) waits.bucket
      (o.step.follows s p waits.follows formed_at prices_at turn))

  pub lane_done : turns ≡ p.next_turn → LaneFollows mid at count b (with_turns_of count s p b)
  lane_done turn = record { bucket = o.step.groups.bucket ∙ waits.bucket; groups = o.step.groups.groups ∙ waits.groups; follows = (takes_turns turn).0 }

  -- every other lane follows its queue, the one before or the one with the turns
  pub lane_beside : LanesStay → (c : Bucket) → c ≢ b → LaneFollows mid (lane_at before c) count c (cond (is_done (index b + 1) c) (with_turns_of count s p b) s)
  lane_beside stay c n =
      lane_kept stay old mid (lane_at before c) count false b c (cond (is_done (index b) c) p s) (cond (is_done (index b + 1) c) (with_turns_of count s p b) s) lane_kind (λ x y. n y) (o.priced.lanes c)
      (clutches_by_turn (lane_at before c) b c s p (with_turns_of count s p b) (o.priced.lanes c).bucket n (only_turns count s p b))

  -- so many priorities of the lane's entries changed
  pub lane_told : told ≡ count_by (is_changed s now) (lane_entries s (lane b false))
  lane_told = o.step.changed s waits.follows formed_at ∙ ap (λ (c : Bucket). count_by (is_changed s now) (lane_entries s (lane c false))) waits.bucket

  pub lane_told_few : told ≤ most_threads
  lane_told_few =
      let few = lane_few count s b false o.formed in
      let fewer = count_by-le-length (is_changed s now) (lane_entries s (lane b false)) in
      omega (arith, few, fewer, lane_told)
