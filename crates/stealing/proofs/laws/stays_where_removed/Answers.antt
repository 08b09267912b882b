use Rattle.stealing.proofs.Changed.{stays_removed}
use Rattle.stealing.proofs.laws.stays_where_removed.Goals as goal

pub returns : goal.returns
returns c = stays_removed c.stays_where_slots_stay.ensures
