use Rattle.flat_policy.proofs.ByUnit.{pick_in_lane}
use Rattle.flat_policy.proofs.laws.pick_stands_in_lane.Goals as goal

pub returns : goal.returns
returns c = pick_in_lane
