use Rattle.stealing.proofs.Changed.{stays_revalued}
use Rattle.stealing.proofs.laws.stays_where_revalued.Goals as goal

pub returns : goal.returns
returns c = stays_revalued c.stays_where_slots_stay.ensures
