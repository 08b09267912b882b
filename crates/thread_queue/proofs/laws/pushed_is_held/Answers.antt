use Rattle.thread_queue.proofs.laws.pushed_is_held.Goals as goal

pub returns : goal.returns
returns c = λ old new queue later slot live pushes. c.added_is_held.ensures old new queue.root later.root slot live pushes.adds
