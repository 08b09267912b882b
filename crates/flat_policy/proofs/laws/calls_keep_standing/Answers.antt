use Rattle.flat_policy.proofs.StandsOn.{stands_on}
use Rattle.flat_policy.proofs.laws.calls_keep_standing.Goals as goal

pub returns : goal.returns
returns c = stands_on
