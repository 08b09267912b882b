use Rattle.thread_queue.proofs.Stays.{stays_apart}
use Rattle.thread_queue.proofs.laws.pushed_stays_apart.Goals as goal

pub returns : goal.returns
returns c = λ old new queue later slot live stands pushes other there apart lacks.
    stays_apart old new later other there (c.added_stays_apart.ensures old new queue.root later.root slot live stands.heap pushes.adds other.root there.heap apart lacks)
