-- A change of one cluster of a machine in code.
use Rattle.std.specs.Prelude.{slice_set, ℕ, ◌≡◌}
use Rattle.flat_policy.specs.Laws.Kept.{RisesBy}
use Rattle.flat_policy.specs.Policy.Clusters.{ClusterView, IsCluster, SameRoom}
use Rattle.trace_machine.specs.Parts.{PartsView, cluster_at}

-- one cluster becomes another, which has room for as many threads and whose next numbers are at most so much higher; the other clusters and
-- the hands stay. The cluster was one that keeps what every cluster keeps
pub record ChangesAt (old new : PartsView) (c : ℕ) (next : ClusterView) (arrivals turns : ℕ) : Type 0 where
  pub parts : new ≡ record old { clusters = slice_set old.clusters c next }
  pub kept : IsCluster (cluster_at old c)
  pub rises : RisesBy arrivals turns (cluster_at old c).flat next.flat
  pub room : SameRoom (cluster_at old c) next
