use Rattle.thread_queue.proofs.laws.slots_are_live.Goals as goal

pub returns : goal.returns
returns c = λ arena queue stands slot held. c.held_are_live.ensures arena queue.root slot stands.heap held
