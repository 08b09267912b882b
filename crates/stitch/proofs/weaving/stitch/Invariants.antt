use Rattle.stitch.specs.Taking.{lines_of}
use Rattle.stitch.proofs.Fewer.{lines_left}
use Rattle.stitch.proofs.Keeping.{Keeps}
use Rattle.stitch.proofs.weaving.stitch.Given as goal

abbrev pub invariant-loop-line : goal.invariant-loop-line
invariant-loop-line l = Keeps l.journals l.logs l.homes l.taken.places l.taken.actors l.history.lines

abbrev pub decreases-loop-line : goal.decreases-loop-line
decreases-loop-line l = lines_left (lines_of l.logs) 0 l.history.lines
