use Rattle.flat_policy.proofs.WholePlaces.{whole_places}
use Rattle.flat_policy.proofs.laws.whole_runs_keep_places.Goals as goal

pub returns : goal.returns
returns c = whole_places
