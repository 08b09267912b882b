use Rattle.stealing.proofs.Changed.{lacks_new}
use Rattle.stealing.proofs.laws.lacks_new_arrival.Goals as goal

pub returns : goal.returns
returns c = lacks_new
