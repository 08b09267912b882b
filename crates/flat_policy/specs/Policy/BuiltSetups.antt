-- What every setup keeps once it is built.
use Rattle.std.specs.Prelude.{All, AllPairs, List, length, map, ℕ, ◌<◌, ◌≡◌, ◌≢◌, ◌≤◌, ◌⊎◌}
use Rattle.sched_base.specs.Limits.{least_quantum, least_rate, most_actors, most_clusters, most_edges, most_groups, most_quantum, most_rate, most_threads, most_warp, most_wcel, most_weight, steal_masks}
use Rattle.sched_base.specs.declared.Bucket.TheVariants.{Ui}
use Rattle.flat_policy.specs.Policy.Setup.{ClusterParts, SetupParts, actor_count, all_buckets, cluster_count, group_count, times_for, times_of_version_one}
use Rattle.flat_policy.specs.declared.setup.EdgeSpec.{EdgeSpec}
use Rattle.flat_policy.specs.declared.setup.Times.{Times}

-- a cluster has 1 to 16 processors and a rate of 100 to 1000
pub record IsCluster (k : ClusterParts) : Type 0 where
  pub cpus_least : 1 ≤ k.cpus
  pub cpus_most : k.cpus ≤ most_actors
  pub rate_least : least_rate ≤ k.rate
  pub rate_most : k.rate ≤ most_rate

-- an edge joins two unlike clusters out of so many; its weight is at most 10000000, its mask below 64
pub record IsEdge (count : ℕ) (e : EdgeSpec) : Type 0 where
  pub from_below : e.from < count
  pub to_below : e.to < count
  pub unlike : e.from ≢ e.to
  pub weight_most : e.weight ≤ most_weight
  pub mask_below : e.steal < steal_masks

-- two edges with the same ends
abbrev pub SameEnds : EdgeSpec → EdgeSpec → Type 0
SameEnds e f = (e.from ≡ f.from) × (e.to ≡ f.to)

-- two edges whose ends are not the same
abbrev pub OtherEnds : EdgeSpec → EdgeSpec → Type 0
OtherEnds e f = ¬ SameEnds e f

-- a group prefers a cluster, out of so many, for each of the six bucket indices
pub record IsGroup (count : ℕ) (row : List ℕ) : Type 0 where
  pub six : length row ≡ 6
  pub below : All (λ c. c < count) row

-- times in their ranges, in microseconds
pub record IsTimes (t : Times) : Type 0 where
  pub wcel_most : t.wcel ≤ most_wcel
  pub warp_most : t.warp ≤ most_warp
  pub quantum_least : least_quantum ≤ t.quantum
  pub quantum_most : t.quantum ≤ most_quantum

-- a cluster has times for each of the six bucket indices, and no WCEL and WARP for UI
pub record IsClusterTimes (ts : List Times) : Type 0 where
  pub six : length ts ≡ 6
  pub each : All IsTimes ts
  pub ui_wcel : (times_for ts Ui).wcel ≡ 0
  pub ui_warp : (times_for ts Ui).warp ≡ 0

-- a setup whose parts are all in their ranges
pub record IsSetup (s : SetupParts) : Type 0 where
  pub clusters_least : 1 ≤ cluster_count s
  pub clusters_most : cluster_count s ≤ most_clusters
  pub clusters : All IsCluster s.clusters
  pub actors_least : 1 ≤ actor_count s
  pub actors_most : actor_count s ≤ most_actors
  pub edges_most : length s.edges ≤ most_edges
  pub edges : All (IsEdge (cluster_count s)) s.edges
  pub ends : AllPairs OtherEnds s.edges
  pub groups_least : 1 ≤ group_count s
  pub groups_most : group_count s ≤ most_groups
  pub groups : All (IsGroup (cluster_count s)) s.groups
  pub threads_least : 1 ≤ s.threads
  pub threads_most : s.threads ≤ most_threads
  pub times_each : length s.times ≡ cluster_count s
  pub times : All IsClusterTimes s.times
  pub version : (s.version ≡ 1) ⊎ (s.version ≡ 2)
  pub ordinary : s.version ≡ 1 → s.times ≡ map (λ _. map times_of_version_one all_buckets) s.clusters
