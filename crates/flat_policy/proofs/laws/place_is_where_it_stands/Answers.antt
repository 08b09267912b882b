use Rattle.flat_policy.proofs.PlaceWhere.{place_where}
use Rattle.flat_policy.proofs.laws.place_is_where_it_stands.Goals as goal

pub returns : goal.returns
returns c = place_where
