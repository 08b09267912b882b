-- Clusters as they are made, and when they can end.
use Rattle.std.specs.Prelude.{List, length, map, replicate, slice_index_or, ℕ, ◌*◌, ◌<◌, ◌≡◌, ◌≤◌, ◌^◌}
use Rattle.flat_policy.specs.Policy.Clusters.{ClusterView}
use Rattle.flat_policy.specs.Policy.Queue.{empty_flat}
use Rattle.flat_policy.specs.Policy.Setup.{SetupParts, actor_count, cluster_count, group_count, home_of}
use Rattle.trace_machine.specs.Parts.{Serves, no_cluster}

-- a new cluster, which serves before any step
pub record IsNew (setup : SetupParts) (c : ℕ) (v : ClusterView) : Type 0 where
  pub empty : v.flat ≡ empty_flat (group_count setup)
  pub serves : Serves setup 0 c v

-- new clusters of the numbers below n
pub record AreNew (setup : SetupParts) (n : ℕ) (vs : List ClusterView) : Type 0 where
  pub count : length vs ≡ n
  pub empty : map (λ (v : ClusterView). v.flat) vs ≡ replicate n (empty_flat (group_count setup))
  pub serve : (c : ℕ) → c < n → Serves setup 0 c (slice_index_or vs c (no_cluster setup))

-- a cluster can be emptied: its next numbers are no more than 2 ^ 50 steps account for
pub record CanEnd (v : ClusterView) : Type 0 where
  pub arrival : v.flat.next_arrival ≤ 2 ^ 50
  pub turn : v.flat.next_turn ≤ 384 * 2 ^ 50

-- a list of the homes of the actors below n, each of which is a cluster's number
pub record AreFirstHomes (setup : SetupParts) (n : ℕ) (homes : List ℕ) : Type 0 where
  pub count : length homes ≡ n
  pub each : (a : ℕ) → a < n → slice_index_or homes a 0 ≡ home_of setup a
  pub below : (a : ℕ) → a < n → home_of setup a < cluster_count setup

-- a list of the homes of all actors
abbrev pub AreHomes : SetupParts → List ℕ → Type 0
AreHomes setup homes = AreFirstHomes setup (actor_count setup) homes
