use Rattle.clutch_bucket.proofs.BoundPriced.{bound_priced}
use Rattle.clutch_bucket.proofs.laws.bound_lanes_are_priced.Goals as goal

pub returns : goal.returns
returns c = bound_priced c.held_are_live.ensures c.slots_stand_once.ensures c.walk_counts_slots.ensures
