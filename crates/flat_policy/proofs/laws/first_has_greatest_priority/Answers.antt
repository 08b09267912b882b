use Rattle.flat_policy.proofs.UnitPriorities.{first_has_greatest}
use Rattle.flat_policy.proofs.laws.first_has_greatest_priority.Goals as goal

pub returns : goal.returns
returns c = first_has_greatest
