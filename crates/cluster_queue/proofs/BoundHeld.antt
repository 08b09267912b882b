-- A listed bound item's slot stands in its bound queue, and in no heap of foreign threads.
use Rattle.std.proofs.Common.{◌≡◌, ℕ, ◌==◌, true, Some, is_some, refl}
use Rattle.std.proofs.lemmas.Bool.{and_parts, both_ways, not_from_true}
use Rattle.flat_policy.specs.Policy.Offer.{is_unbound}
use Rattle.flat_policy.specs.Policy.Queue.{Flat, in_lane, lane, lane_entries}
use Rattle.link_arena.specs.Arena.{Arena, value_at}
use Rattle.thread_queue.specs.Item.{entry_of}
use Rattle.thread_queue.specs.Queue.{HasSlot}
use Rattle.thread_queue.specs.declared.item.Item.{Item}
use Rattle.stealing.specs.Foreign.{LacksSlot}
use Rattle.cluster_queue.specs.Heaps.{HeapsFollow, bound_at}
use Rattle.cluster_queue.specs.Moves.{CanLeave}
use Rattle.cluster_queue.specs.declared.heaps.Heaps.{Heaps}
use Rattle.cluster_queue.proofs.Buckets.{in_lane_from}
use Rattle.cluster_queue.proofs.Members.{filter_has}
use Rattle.cluster_queue.proofs.Listed.{queue_listed}
use Rattle.cluster_queue.proofs.ForeignCleared.{lacks_where}

-- the slot of a listed bound item stands in its queue
pub bound_has : (arena : Arena Item) (heaps : Heaps) (slot : ℕ) (can : CanLeave arena heaps slot) → is_some can.item.thread.bound ≡ true → HasSlot arena (bound_at heaps can.item.thread.bucket) slot
bound_has arena heaps slot can bound =
    let e = entry_of can.item in
    let b = can.item.thread.bucket in
    queue_listed arena (bound_at heaps b) (lane_entries can.s (lane b true)) slot can.item (can.follows.bound b).entries can.once
    (filter_has (in_lane (lane b true)) can.s.entries e can.listed (in_lane_from b true e refl bound))

-- no heap of foreign threads has a bound item's slot
pub bound_lacks : (arena : Arena Item) (heaps : Heaps) (count : ℕ) (s : Flat) (slot : ℕ) (item : Item) → HeapsFollow arena heaps count s → value_at arena slot ≡ Some item → is_some item.thread.bound ≡ true → LacksSlot arena heaps.foreign slot
bound_lacks arena heaps count s slot item f stored bound =
    lacks_where arena heaps.foreign slot (λ to has.
    both_ways (is_unbound item.thread) (not_from_true (is_some item.thread.bound) bound)
    (and_parts (is_unbound item.thread) (item.thread.prefer == to) (f.foreign.stands.at_preferred to slot item has stored)).0)
