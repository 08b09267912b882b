use Rattle.stealing.proofs.Changed.{has_listed}
use Rattle.stealing.proofs.laws.has_listed_slot.Goals as goal

pub returns : goal.returns
returns c = has_listed
