use Rattle.flat_policy.proofs.ByUnit.{first_of_bound}
use Rattle.flat_policy.proofs.laws.first_of_bound_lane.Goals as goal

pub returns : goal.returns
returns c = first_of_bound
