-- The list has grown by what the walk has passed.
use Rattle.std.proofs.Common.{◌+◌, ◌-◌, length}
use Rattle.pairing_heap.specs.Heap.{pairs_at}
use Rattle.pairing_heap.proofs.Listing.{Listed}
use Rattle.std.specs.Prelude.{vec_capacity, vec_len, ◌≡◌}
use Rattle.pairing_heap.proofs.walk.list_slots.Given as goal

abbrev pub invariant-loop-at : goal.invariant-loop-at
invariant-loop-at g l =
    Listed g.row.K g.V.Keyed.key_of g.V.Key.HeapKey.precedes l.fn.arena l.fn.root l.fn.slots.items l.slots.items l.at (vec_len l.fn.slots) (vec_len l.slots) × (vec_capacity l.slots ≡ vec_capacity l.fn.slots)

abbrev pub decreases-loop-at : goal.decreases-loop-at
decreases-loop-at g l = (vec_len l.fn.slots + length (pairs_at g.row.K g.V.Keyed.key_of l.fn.arena l.fn.root)) - vec_len l.slots
