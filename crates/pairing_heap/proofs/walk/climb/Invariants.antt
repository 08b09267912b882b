-- What is beyond the slot is beyond what the walk up has come to.
use Rattle.pairing_heap.specs.Heap.{tree_at}
use Rattle.pairing_heap.proofs.Walking.{Climbing, place}
use Rattle.pairing_heap.proofs.walk.climb.Given as goal

abbrev pub invariant-loop-before : goal.invariant-loop-before
invariant-loop-before g l = Climbing g.row.K g.V.Keyed.key_of g.V.Key.HeapKey.precedes l.fn.arena l.fn.root l.fn.slot l.at l.before

abbrev pub decreases-loop-before : goal.decreases-loop-before
decreases-loop-before g l = place l.at (tree_at g.row.K g.V.Keyed.key_of l.fn.arena l.fn.root)
