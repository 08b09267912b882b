use Rattle.stealing.proofs.Changed.{stays_beside}
use Rattle.stealing.proofs.laws.stays_where_queues_change.Goals as goal

pub returns : goal.returns
returns c = stays_beside c.stays_where_slots_stay.ensures
