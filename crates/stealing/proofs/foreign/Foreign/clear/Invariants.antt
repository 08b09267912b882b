-- The heaps of the clusters so far are cleared.
use Rattle.stealing.specs.Clearing.{ClearsBelow}
use Rattle.stealing.proofs.foreign.Foreign.clear.Given as goal

abbrev pub invariant-loop-to : goal.invariant-loop-to
invariant-loop-to g l = ClearsBelow l.fn.arena l.arena l.fn.self l.self l.to
