use Rattle.stitch.specs.Left.{AllInHand}
use Rattle.stitch.proofs.stops.first_left_of.Given as goal

abbrev pub invariant-loop-a : goal.invariant-loop-a
invariant-loop-a l = AllInHand l.logs l.homes l.taken.actors l.a
