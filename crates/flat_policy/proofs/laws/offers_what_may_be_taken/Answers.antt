use Rattle.flat_policy.proofs.Offers.{offers}
use Rattle.flat_policy.proofs.laws.offers_what_may_be_taken.Goals as goal

pub returns : goal.returns
returns c = offers
