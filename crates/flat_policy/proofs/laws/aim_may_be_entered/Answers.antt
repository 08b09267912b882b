use Rattle.flat_policy.proofs.Aims.{aims_right}
use Rattle.flat_policy.proofs.laws.aim_may_be_entered.Goals as goal

pub returns : goal.returns
returns c = aims_right
