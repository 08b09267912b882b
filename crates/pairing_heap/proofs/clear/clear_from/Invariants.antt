-- What is left is a forest of the heap's slots, and all other slots of the heap are loose.
use Rattle.std.proofs.Common.{length}
use Rattle.pairing_heap.specs.Forest.{Loosens}
use Rattle.pairing_heap.specs.Heap.{tree_at}
use Rattle.pairing_heap.proofs.Clearing.{effort_from}
use Rattle.pairing_heap.proofs.clear.clear_from.Given as goal

abbrev pub invariant-loop-first : goal.invariant-loop-first
invariant-loop-first g l = Loosens g.row.K g.V.Keyed.key_of l.fn.arena l.arena l.fn.root l.first (tree_at g.row.K g.V.Keyed.key_of l.fn.arena l.fn.root)

abbrev pub decreases-loop-first : goal.decreases-loop-first
decreases-loop-first g l = effort_from g.row.K g.V.Keyed.key_of l.arena (length l.fn.arena.nodes) l.first
