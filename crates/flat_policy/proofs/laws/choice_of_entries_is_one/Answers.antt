use Rattle.flat_policy.proofs.Choice.{chooses_one}
use Rattle.flat_policy.proofs.laws.choice_of_entries_is_one.Goals as goal

pub returns : goal.returns
returns c = λ before xs. chooses_one before xs
