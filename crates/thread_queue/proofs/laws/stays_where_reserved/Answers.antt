use Rattle.thread_queue.proofs.Stays.{stays}
use Rattle.thread_queue.proofs.laws.stays_where_reserved.Goals as goal

pub returns : goal.returns
returns c = λ old new same queue stands. stays old new queue stands (c.stays_where_reserved.ensures old new same queue.root stands.heap)
