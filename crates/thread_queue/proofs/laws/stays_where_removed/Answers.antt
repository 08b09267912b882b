use Rattle.thread_queue.proofs.Stays.{stays}
use Rattle.thread_queue.proofs.laws.stays_where_removed.Goals as goal

pub returns : goal.returns
returns c = λ old new slot removes queue stands lacks.
    stays old new queue stands (c.stays_where_removed.ensures old new slot removes queue.root stands.heap lacks)
