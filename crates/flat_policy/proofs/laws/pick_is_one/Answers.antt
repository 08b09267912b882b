use Rattle.flat_policy.proofs.PickIsOne.{pick_is_one_is}
use Rattle.flat_policy.proofs.laws.pick_is_one.Goals as goal

pub returns : goal.returns
returns c = pick_is_one_is
