-- A listed unbound item's slot stands in the heap of its preferred cluster, and in its unit.
use Rattle.std.proofs.Common.{◌≡◌, ℕ, ◌<◌, ◌==◌, false, is_some, refl, eq-eqb}
use Rattle.std.proofs.lemmas.Bool.{and_from, not_from_false}
use Rattle.flat_policy.specs.Policy.Offer.{is_unbound}
use Rattle.flat_policy.specs.Policy.Queue.{Queued}
use Rattle.link_arena.specs.Arena.{Arena}
use Rattle.thread_queue.specs.Item.{entry_of}
use Rattle.thread_queue.specs.Laws.{StaysWhereOtherSetChanges}
use Rattle.thread_queue.specs.declared.item.Item.{Item}
use Rattle.clutch_bucket.specs.Lane.{HasLaneSlot, queue_at}
use Rattle.stealing.specs.Foreign.{IsHeld, Removes, Roots}
use Rattle.stealing.specs.Laws.{HasListedSlot}
use Rattle.cluster_queue.specs.Heaps.{lane_at}
use Rattle.cluster_queue.specs.Moves.{CanLeave}
use Rattle.cluster_queue.specs.declared.heaps.Heaps.{Heaps}
use Rattle.cluster_queue.proofs.SecondLinks.{unit_queue}
use Rattle.cluster_queue.proofs.Slots.{has_after}
use Rattle.cluster_queue.proofs.Members.{fact_of_member}
use Rattle.cluster_queue.proofs.Listed.{lane_listed}

-- the slot of a listed unbound item stands in the heap of its preferred cluster
pub unbound_held : HasListedSlot → (arena : Arena Item) (heaps : Heaps) (slot : ℕ) (can : CanLeave arena heaps slot) → is_some can.item.thread.bound ≡ false → IsHeld arena heaps.foreign slot
unbound_held law arena heaps slot can free =
    let t = can.item.thread in
    let wants = and_from (is_unbound t) (t.prefer == t.prefer) (not_from_false (is_some t.bound) free) (eq-eqb t.prefer t.prefer refl) in
    (t.prefer, law arena heaps.foreign can.s.entries t.prefer slot can.item can.follows.foreign can.prefer wants can.stored can.listed can.once)

-- and in its unit, also once it left that heap
pub unbound_has : StaysWhereOtherSetChanges → (old mid : Arena Item) (heaps : Heaps) (foreign : Roots) (slot : ℕ) (can : CanLeave old heaps slot) → is_some can.item.thread.bound ≡ false → Removes old mid heaps.foreign foreign slot → HasLaneSlot mid (lane_at heaps can.item.thread.bucket) slot
unbound_has law old mid heaps foreign slot can free removes =
    let e = entry_of can.item in
    let b = can.item.thread.bucket in
    let at = lane_at heaps b in
    let below = fact_of_member (λ (q : Queued). q.facts.group < can.count) can.s.entries e can.formed.groups_below can.listed in
    let had = lane_listed old at can.count slot b can.s can.item (can.follows.lanes b) can.once refl free below can.listed in
    (had.0, (had.1.0, has_after old mid (queue_at at had.0) slot (unit_queue law old mid _ removes.kept heaps can.count can.s can.follows b had.0 had.1.0) had.1.1))
