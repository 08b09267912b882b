use Rattle.flat_policy.proofs.Orders.{targets_in_order}
use Rattle.flat_policy.proofs.laws.targets_are_ordered.Goals as goal

pub returns : goal.returns
returns c = targets_in_order
