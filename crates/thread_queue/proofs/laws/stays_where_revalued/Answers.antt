use Rattle.thread_queue.proofs.Stays.{stays}
use Rattle.thread_queue.proofs.laws.stays_where_revalued.Goals as goal

pub returns : goal.returns
returns c = λ old new slot item revalues queue stands lacks. stays old new queue stands (c.stays_where_revalued.ensures old new slot item revalues queue.root stands.heap lacks)
