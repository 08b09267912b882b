use Rattle.thread_queue.proofs.Stays.{stays_without}
use Rattle.thread_queue.proofs.laws.stays_where_inserted.Goals as goal

pub returns : goal.returns
returns c = λ old new slot item inserts queue stands.
    stays_without old new queue slot stands (c.stays_where_inserted.ensures old new slot item inserts queue.root stands.heap)
