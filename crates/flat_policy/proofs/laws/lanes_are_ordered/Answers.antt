use Rattle.flat_policy.proofs.Orders.{lanes_in_order}
use Rattle.flat_policy.proofs.laws.lanes_are_ordered.Goals as goal

pub returns : goal.returns
returns c = λ groups s w. lanes_in_order s w.ten_lanes
