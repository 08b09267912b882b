use Rattle.stealing.proofs.Changed.{stays_reserved}
use Rattle.stealing.proofs.laws.stays_where_reserved.Goals as goal

pub returns : goal.returns
returns c = stays_reserved c.stays_where_slots_stay.ensures
