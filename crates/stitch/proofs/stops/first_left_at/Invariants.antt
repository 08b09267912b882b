use Rattle.stitch.specs.Left.{NoneLeftAt}
use Rattle.stitch.proofs.stops.first_left_at.Given as goal

abbrev pub invariant-loop-place : goal.invariant-loop-place
invariant-loop-place l = NoneLeftAt l.journals l.taken.places l.place
