use Rattle.flat_policy.proofs.ByMembers.{choice_by_members}
use Rattle.flat_policy.proofs.laws.choice_goes_by_members.Goals as goal

pub returns : goal.returns
returns g c = λ before xs ys o same. choice_by_members before xs ys o same
