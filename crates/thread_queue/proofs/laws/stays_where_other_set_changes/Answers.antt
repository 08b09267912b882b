use Rattle.thread_queue.proofs.Stays.{stays}
use Rattle.thread_queue.proofs.laws.stays_where_other_set_changes.Goals as goal

pub returns : goal.returns
returns c = λ old new set times unlike only queue stands. stays old new queue stands (c.stays_where_other_set_changes.ensures old new set times unlike only queue.root stands.heap)
