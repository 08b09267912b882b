-- What is left and what is done make up the chain that was given.
use Rattle.std.proofs.Common.{length}
use Rattle.pairing_heap.specs.Chain.{Chained, Halves}
use Rattle.pairing_heap.proofs.Pairing.{walk_size}
use Rattle.pairing_heap.proofs.meld.pair_up.Given as goal

abbrev pub invariant-loop-rest : goal.invariant-loop-rest
invariant-loop-rest g l =
    (was : Chained g.row.K g.V.Keyed.key_of g.V.Key.HeapKey.precedes l.fn.arena l.fn.first)
    → Halves g.row.K g.V.Keyed.key_of g.V.Key.HeapKey.precedes l.fn.arena l.arena l.fn.first l.rest l.paired was l.fn.steps l.steps

abbrev pub decreases-loop-rest : goal.decreases-loop-rest
decreases-loop-rest g l = walk_size g.row.K g.V.Keyed.key_of g.V.Key.HeapKey.precedes l.arena (length l.fn.arena.nodes) l.rest
