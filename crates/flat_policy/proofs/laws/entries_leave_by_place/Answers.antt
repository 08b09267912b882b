use Rattle.flat_policy.proofs.KeptClusters.{leaves_by_place}
use Rattle.flat_policy.proofs.laws.entries_leave_by_place.Goals as goal

pub returns : goal.returns
returns c = leaves_by_place
