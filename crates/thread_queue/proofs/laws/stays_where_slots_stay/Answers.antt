use Rattle.thread_queue.proofs.Stays.{stays}
use Rattle.thread_queue.proofs.laws.stays_where_slots_stay.Goals as goal

pub returns : goal.returns
returns c = λ old new queue stands same.
    stays old new queue stands (c.stays_where_slots_stay.ensures old new queue.root stands.heap same)
