use Rattle.flat_policy.proofs.Precedes.{precedes_orders}
use Rattle.flat_policy.proofs.laws.precedes_orders.Goals as goal

pub returns : goal.returns
returns c = λ groups s w. precedes_orders s.entries w.arrivals_rise w.order_numbers
