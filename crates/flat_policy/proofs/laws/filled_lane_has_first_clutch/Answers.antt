use Rattle.flat_policy.proofs.UnitPriorities.{filled_has_first}
use Rattle.flat_policy.proofs.laws.filled_lane_has_first_clutch.Goals as goal

pub returns : goal.returns
returns c = filled_has_first
