use Rattle.clutch_bucket.proofs.Stay.{lanes_stand}
use Rattle.clutch_bucket.proofs.laws.lanes_stand.Goals as goal

pub returns : goal.returns
returns c = lanes_stand c.first_is_least.ensures
