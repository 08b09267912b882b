use Rattle.migration.proofs.Clusters.{aim_goes_by_clusters}
use Rattle.migration.proofs.laws.aim_goes_by_clusters.Goals as goal

pub returns : goal.returns
returns c = aim_goes_by_clusters
