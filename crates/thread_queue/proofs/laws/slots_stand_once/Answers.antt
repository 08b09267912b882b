use Rattle.thread_queue.proofs.laws.slots_stand_once.Goals as goal

pub returns : goal.returns
returns c = λ arena queue stands slot. c.slots_stand_once.ensures arena queue.root slot stands.heap
