use Rattle.stealing.proofs.Changed.{stays_settled}
use Rattle.stealing.proofs.laws.stays_where_settled.Goals as goal

pub returns : goal.returns
returns c = stays_settled c.stays_where_slots_stay.ensures
