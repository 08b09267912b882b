use Rattle.flat_policy.proofs.ByUnit.{first_in_clutch}
use Rattle.flat_policy.proofs.laws.first_stands_in_clutch.Goals as goal

pub returns : goal.returns
returns c = first_in_clutch
