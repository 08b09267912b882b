use Rattle.thread_queue.proofs.laws.walk_begins_with_first.Goals as goal

pub returns : goal.returns
returns c = λ arena queue stands. c.walk_begins_with_first.ensures arena queue.root stands.heap
