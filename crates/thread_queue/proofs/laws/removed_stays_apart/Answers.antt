use Rattle.thread_queue.proofs.Stays.{stays_apart}
use Rattle.thread_queue.proofs.laws.removed_stays_apart.Goals as goal

pub returns : goal.returns
returns c = λ old new queue later slot stands removes other there apart.
    stays_apart old new later other there (c.taken_stays_apart.ensures old new queue.root later.root slot stands.heap removes.takes other.root there.heap apart)
