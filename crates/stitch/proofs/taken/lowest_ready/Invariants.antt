use Rattle.stitch.specs.Cursors.{NoneReady}
use Rattle.stitch.proofs.taken.lowest_ready.Given as goal

abbrev pub invariant-loop-a : goal.invariant-loop-a
invariant-loop-a l = NoneReady l.journals l.logs l.homes l.taken.places l.taken.actors l.a
