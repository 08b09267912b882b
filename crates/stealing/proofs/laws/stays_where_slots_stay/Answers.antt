use Rattle.stealing.proofs.Stays.{stays}
use Rattle.stealing.proofs.laws.stays_where_slots_stay.Goals as goal

pub returns : goal.returns
returns c = stays c.stays_where_slots_stay.ensures
