use Rattle.thread_queue.proofs.laws.removed_is_lacked.Goals as goal

pub returns : goal.returns
returns c = λ old new queue later slot stands removes. c.taken_is_lacked.ensures old new queue.root later.root slot stands.heap removes.takes
