use Rattle.flat_policy.proofs.Offers.{offers_in_order}
use Rattle.flat_policy.proofs.laws.offers_are_one.Goals as goal

pub returns : goal.returns
returns c = offers_in_order
