-- The slot of an item whose arrival is that of no entry is in no heap, and there is room for it.
use Rattle.std.proofs.Common.{◌≡◌, ℕ, ◌<◌, true, false, Some, length, refl, sym, ap, ◌∙◌, subst, arith}
use Rattle.std.specs.Prelude.{slice_index_or}
use Rattle.sched_base.specs.Bucket.{index}
use Rattle.sched_base.specs.Limits.{most_threads}
use Rattle.sched_base.specs.declared.Bucket.{Bucket}
use Rattle.flat_policy.specs.Policy.Queue.{Flat, in_clutch, in_lane, lane}
use Rattle.link_arena.specs.Arena.{Arena, value_at}
use Rattle.thread_queue.specs.Item.{entry_of}
use Rattle.thread_queue.specs.Queue.{LacksSlot, Queue}
use Rattle.thread_queue.specs.declared.item.Item.{Item}
use Rattle.clutch_bucket.specs.Lane.{IsNew, LacksLaneSlot, Lane, queue_at, unit_of}
use Rattle.cluster_queue.specs.Heaps.{HeapsFollow, bound_at, lane_at}
use Rattle.cluster_queue.specs.Moves.{CanEnter}
use Rattle.cluster_queue.specs.declared.heaps.Heaps.{Heaps}
use Rattle.cluster_queue.proofs.Places.{bound_read, lane_read}
use Rattle.cluster_queue.proofs.Slots.{lacks_where_not, one_item}
use Rattle.cluster_queue.proofs.Members.{kept_member}
use Rattle.cluster_queue.proofs.Passing.{filter_most}

module _ (arena : Arena Item) (heaps : Heaps) (count : ℕ) (s : Flat) (f : HeapsFollow arena heaps count s) where
  pub new_lacks_lane : (slot : ℕ) (item : Item) → value_at arena slot ≡ Some item → IsNew s item → (b : Bucket) → LacksLaneSlot arena (lane_at heaps b) slot
  new_lacks_lane slot item stored fresh b = λ g within. lacks_where_not arena (queue_at (lane_at heaps b) g) slot (λ has. (
      let unit = (f.lanes b).follows.units.each g within in
      fresh (entry_of item) (kept_member (in_clutch (unit_of (lane_at heaps b) g)) s.entries (entry_of item) (unit.entries.there slot item has stored)).0 refl))

  pub new_lacks_bound : (slot : ℕ) (item : Item) → value_at arena slot ≡ Some item → IsNew s item → (b : Bucket) → LacksSlot arena (bound_at heaps b) slot
  new_lacks_bound slot item stored fresh b = lacks_where_not arena (bound_at heaps b) slot (λ has.
      fresh (entry_of item) (kept_member (in_lane (lane b true)) s.entries (entry_of item) ((f.bound b).entries.there slot item has stored)).0 refl)

  -- a lane has no more entries than the queue
  pub lane_room : length s.entries < most_threads → (b : Bucket) → (lane_at heaps b).len < most_threads
  lane_room few b = omega (arith, few, (f.lanes b).follows.units.len, filter_most (in_lane (lane (lane_at heaps b).bucket false)) s.entries)

  pub bound_room : length s.entries < most_threads → (b : Bucket) → (bound_at heaps b).count < most_threads
  bound_room few b = omega (arith, few, (f.bound b).count, filter_most (in_lane (lane b true)) s.entries)

-- so it is where the lane and the bound queue are read at the index of the item's bucket
module _ (arena : Arena Item) (heaps : Heaps) (slot : ℕ) (can : CanEnter arena heaps slot) (read : Item) (stored : value_at arena slot ≡ Some read) (i : ℕ) (at : i ≡ index read.thread.bucket) where
  abbrev own : Bucket
  own = can.item.thread.bucket

  at_own : i ≡ index own
  at_own = at ∙ ap (λ (x : Item). index x.thread.bucket) (one_item arena slot read can.item stored can.stored)

  pub read_lacks_lane : (d : Lane) → LacksLaneSlot arena (slice_index_or heaps.lanes i d) slot
  read_lacks_lane d = subst (λ (l : Lane). LacksLaneSlot arena l slot) (sym (lane_read heaps own i d can.follows.six at_own)) (new_lacks_lane arena heaps can.count can.s can.follows slot can.item can.stored can.fresh own)

  pub read_lane_room : (d : Lane) → (slice_index_or heaps.lanes i d).len < most_threads
  read_lane_room d = subst (λ (l : Lane). l.len < most_threads) (sym (lane_read heaps own i d can.follows.six at_own)) (lane_room arena heaps can.count can.s can.follows can.few own)

  pub read_lacks_bound : (d : Queue) → LacksSlot arena (slice_index_or heaps.bound i d) slot
  read_lacks_bound d = subst (λ (q : Queue). LacksSlot arena q slot) (sym (bound_read heaps own i d can.follows.six at_own)) (new_lacks_bound arena heaps can.count can.s can.follows slot can.item can.stored can.fresh own)

  pub read_bound_room : (d : Queue) → (slice_index_or heaps.bound i d).count < most_threads
  read_bound_room d = subst (λ (q : Queue). q.count < most_threads) (sym (bound_read heaps own i d can.follows.six at_own)) (bound_room arena heaps can.count can.s can.follows can.few own)
