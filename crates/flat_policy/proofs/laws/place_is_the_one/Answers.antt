use Rattle.flat_policy.proofs.PlaceOf.{place_is}
use Rattle.flat_policy.proofs.laws.place_is_the_one.Goals as goal

pub returns : goal.returns
returns c = place_is
