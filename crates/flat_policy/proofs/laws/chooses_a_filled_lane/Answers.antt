use Rattle.flat_policy.proofs.ChosenLane.{chooses_filled}
use Rattle.flat_policy.proofs.laws.chooses_a_filled_lane.Goals as goal

pub returns : goal.returns
returns c = λ groups ts s w. chooses_filled ts s w.ten_lanes
