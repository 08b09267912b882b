use Rattle.flat_policy.proofs.InLane.{goes_order}
use Rattle.flat_policy.proofs.laws.goes_before_orders.Goals as goal

pub returns : goal.returns
returns c = λ groups s at w. goes_order groups s w at
