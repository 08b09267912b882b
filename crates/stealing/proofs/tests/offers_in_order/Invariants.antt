-- The heaps stand in the arena.
use Rattle.stealing.specs.Foreign.{StandsIn}
use Rattle.stealing.proofs.tests.offers_in_order.Given as goal

abbrev pub invariant-loop-row : goal.invariant-loop-row
invariant-loop-row g l = StandsIn l.arena l.foreign

abbrev pub invariant-loop-name : goal.invariant-loop-name
invariant-loop-name g l = StandsIn l.arena l.foreign
