-- The slot that goes first stands in the cluster's heap.
use Rattle.stealing.proofs.tests.leave.Goals as goal

pub remove-requires-clause-held : goal.remove-requires-clause-held
remove-requires-clause-held g c = (c.args.to, c.in_ok-slot.ensures.held c.args.arena.now c.requires.stands)
