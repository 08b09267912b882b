use Rattle.stealing.proofs.Changed.{stays_inserted}
use Rattle.stealing.proofs.laws.stays_where_inserted.Goals as goal

pub returns : goal.returns
returns c = stays_inserted c.held_are_live.ensures c.stays_where_slots_stay.ensures
