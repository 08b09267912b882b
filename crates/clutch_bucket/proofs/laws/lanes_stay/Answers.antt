use Rattle.clutch_bucket.proofs.Stay.{lanes_stay}
use Rattle.clutch_bucket.proofs.laws.lanes_stay.Goals as goal

pub returns : goal.returns
returns c = lanes_stay c.first_is_least.ensures
