use Rattle.flat_policy.proofs.UnitPriorities.{lane_priorities}
use Rattle.flat_policy.proofs.laws.lane_priorities_are_of_units.Goals as goal

pub returns : goal.returns
returns c = lane_priorities
