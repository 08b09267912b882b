use Rattle.flat_policy.proofs.Choice.{chooses_one}
use Rattle.flat_policy.proofs.laws.choice_is_one.Goals as goal

pub returns : goal.returns
returns g c = λ before xs o. chooses_one before xs o
