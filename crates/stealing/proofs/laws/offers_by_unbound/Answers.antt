use Rattle.stealing.proofs.Changed.{by_unbound}
use Rattle.stealing.proofs.laws.offers_by_unbound.Goals as goal

pub returns : goal.returns
returns c = by_unbound
