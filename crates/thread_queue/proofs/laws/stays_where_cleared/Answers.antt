use Rattle.thread_queue.proofs.Stays.{stays}
use Rattle.thread_queue.proofs.laws.stays_where_cleared.Goals as goal

pub returns : goal.returns
returns c = λ old new queue stands clears other there apart.
    stays old new other there (c.stays_where_cleared.ensures old new queue.root stands.heap clears.clears other.root there.heap apart)
