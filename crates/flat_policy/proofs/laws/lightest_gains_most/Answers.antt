use Rattle.flat_policy.proofs.Gains.{lightest_gains}
use Rattle.flat_policy.proofs.laws.lightest_gains_most.Goals as goal

pub returns : goal.returns
returns c = lightest_gains
