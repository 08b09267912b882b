use Rattle.flat_policy.proofs.KeptClusters.{calls_keep}
use Rattle.flat_policy.proofs.laws.calls_keep_clusters.Goals as goal

pub returns : goal.returns
returns c = calls_keep
