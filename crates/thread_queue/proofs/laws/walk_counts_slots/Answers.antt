use Rattle.thread_queue.proofs.laws.walk_counts_slots.Goals as goal

pub returns : goal.returns
returns c = λ arena queue slot. c.walk_counts_slots.ensures arena queue.root slot
