-- What a setup says: the clusters, the edges between them, the groups, and the times.
use Rattle.std.specs.Int.{bit_at}
use Rattle.std.specs.Option.{option_map_or}
use Rattle.std.specs.Prelude.{Bool, List, Option, [], false, find, if◌then◌else◌, length, nat_lt, slice_get, slice_index, slice_index_or, suc, sum_by, zero, ℕ, ◌&&◌, ◌+◌, ◌-◌, ◌==◌, ◌∷◌}
use Rattle.sched_base.specs.Bucket.{index}
use Rattle.sched_base.specs.declared.Bucket.{Bucket}
use Rattle.sched_base.specs.declared.Bucket.TheVariants.{Bg, Df, Fg, Ini, Ui, Ut}
use Rattle.bucket_tables.specs.Tables.{quantum_of, warp_of, wcel_of}
use Rattle.flat_policy.specs.declared.setup.EdgeSpec.{EdgeSpec}
use Rattle.flat_policy.specs.declared.setup.Times.{Times}

-- a cluster: how many processors it has, and how much work each does in 1000 microseconds
pub record ClusterParts : Type 0 where
  pub cpus : ℕ
  pub rate : ℕ

-- a setup: clusters, edges, the preferred clusters of each group by bucket index, the most live threads, the times of each cluster by bucket index, and version
pub record SetupParts : Type 0 where
  pub clusters : List ClusterParts
  pub edges : List EdgeSpec
  pub groups : List (List ℕ)
  pub threads : ℕ
  pub times : List (List Times)
  pub version : ℕ

-- the six buckets, the highest first
abbrev pub all_buckets : List Bucket
all_buckets = Ui ∷ Fg ∷ Ini ∷ Df ∷ Ut ∷ Bg ∷ []

-- so many numbers from the first on, each one more than the one before
abbrev pub numbers_from : ℕ → ℕ → List ℕ
numbers_from first zero = []
numbers_from first (suc count) = first ∷ numbers_from (suc first) count

-- the numbers below n, the least first
abbrev pub numbers_below : ℕ → List ℕ
numbers_below n = numbers_from 0 n

-- the times of version 1 for a bucket
abbrev pub times_of_version_one : Bucket → Times
times_of_version_one b = record { wcel = wcel_of b; warp = warp_of b; quantum = quantum_of b }

-- times that are all 0
abbrev pub no_times : Times
no_times = record { wcel = 0; warp = 0; quantum = 0 }

-- the times of a bucket, out of those of one cluster by bucket index
abbrev pub times_for : List Times → Bucket → Times
times_for ts b = slice_index_or ts (index b) no_times

-- the times of one cluster, by bucket index
abbrev pub cluster_times : SetupParts → ℕ → List Times
cluster_times setup c = slice_index_or setup.times c []

-- how many clusters there are
abbrev pub cluster_count : SetupParts → ℕ
cluster_count setup = length setup.clusters

-- how many groups there are
abbrev pub group_count : SetupParts → ℕ
group_count setup = length setup.groups

-- how many actors there are: one for each processor
abbrev pub actor_count : SetupParts → ℕ
actor_count setup = sum_by (λ (c : ClusterParts). c.cpus) setup.clusters

-- the processors of a cluster
abbrev pub cpus_of : SetupParts → ℕ → ℕ
cpus_of setup c = option_map_or (λ (k : ClusterParts). k.cpus) (slice_get setup.clusters c) 0

-- the rate of a cluster
abbrev pub rate_of : SetupParts → ℕ → ℕ
rate_of setup c = option_map_or (λ (k : ClusterParts). k.rate) (slice_get setup.clusters c) 0

-- the cluster of an actor, among some: actors are numbered through all clusters, those of the first one first
abbrev pub home_among : List ClusterParts → ℕ → ℕ
home_among [] actor = 0
home_among (c ∷ cs) actor = if nat_lt actor c.cpus then 0 else home_among cs (actor - c.cpus) + 1

-- the cluster of an actor
abbrev pub home_of : SetupParts → ℕ → ℕ
home_of setup actor = home_among setup.clusters actor

-- the preferred cluster of a group for a bucket
abbrev pub preferred_cluster : SetupParts → ℕ → Bucket → ℕ
preferred_cluster setup group b = slice_index (slice_index_or setup.groups group []) (index b)

-- the edge from one cluster to another, where there is one
abbrev pub edge_between : SetupParts → ℕ → ℕ → Option EdgeSpec
edge_between setup from to = find (λ (e : EdgeSpec). (e.from == from) && (e.to == to)) setup.edges

-- whether threads may move along the edge; a missing edge moves none
abbrev pub migrates : SetupParts → ℕ → ℕ → Bool
migrates setup from to = option_map_or (λ (e : EdgeSpec). e.migrate) (edge_between setup from to) false

-- the bucket indices that may be stolen along the edge, as the bits of a number; none along a missing edge
abbrev pub steal_mask : SetupParts → ℕ → ℕ → ℕ
steal_mask setup from to = option_map_or (λ (e : EdgeSpec). e.steal) (edge_between setup from to) 0

-- the weight of the edge
abbrev pub edge_weight : SetupParts → ℕ → ℕ → ℕ
edge_weight setup from to = option_map_or (λ (e : EdgeSpec). e.weight) (edge_between setup from to) 0

-- whether a mask has the bit of a bucket
abbrev pub mask_has : ℕ → Bucket → Bool
mask_has mask b = bit_at mask (index b) == 1
