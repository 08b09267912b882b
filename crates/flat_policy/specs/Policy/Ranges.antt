-- The ranges of a setup's fields, and the setup that numbers in range make.
use Rattle.std.specs.List.{list_all, list_any}
use Rattle.std.specs.Prelude.{Bool, List, None, Option, Some, [], if◌then◌else◌, length, map, nat_le, nat_lt, not, slice_index, slice_index_or, sum_by, true, ℕ, ◌&&◌, ◌++◌, ◌-◌, ◌==◌, ◌∷◌}
use Rattle.sched_base.specs.Limits.{least_quantum, least_rate, most_actors, most_clusters, most_edges, most_groups, most_quantum, most_rate, most_threads, most_warp, most_wcel, most_weight, steal_masks}
use Rattle.flat_policy.specs.declared.setup.EdgeSpec.{EdgeSpec}
use Rattle.flat_policy.specs.declared.setup.Field.{Field}
use Rattle.flat_policy.specs.declared.setup.Times.{Times}
use Rattle.flat_policy.specs.Policy.Setup.{ClusterParts, SetupParts, all_buckets, numbers_below, times_of_version_one}
use Rattle.flat_policy.specs.declared.setup.Field.TheVariants as fields

-- the numbers of a row
abbrev pub nth : List ℕ → ℕ → ℕ
nth row i = slice_index row i

-- each number of a list is below another
abbrev pub all_below : ℕ → List ℕ → Bool
all_below n xs = list_all (λ x. nat_lt x n) xs

-- a number lies between two, ends included
abbrev pub between : ℕ → ℕ → ℕ → Bool
between low high n = nat_le low n && nat_le n high

-- a cluster `[cpus, rate]`: 1 to 16 processors, a rate of 100 to 1000
abbrev pub is_cluster_row : List ℕ → Bool
is_cluster_row row = between 1 most_actors (nth row 0) && between least_rate most_rate (nth row 1)

-- 1 to 8 clusters, and no more than 16 processors in all
abbrev pub clusters_in_range : List (List ℕ) → Bool
clusters_in_range clusters =
    between 1 most_clusters (length clusters) && (list_all is_cluster_row clusters && nat_le (sum_by (λ row. nth row 0) clusters) most_actors)

-- an edge `[from, to, weight, migrate, steal]`, among so many clusters
abbrev pub is_edge_row : ℕ → List ℕ → Bool
is_edge_row count row =
    (nat_lt (nth row 0) count && nat_lt (nth row 1) count)
    && (not (nth row 0 == nth row 1)
    && (nat_le (nth row 2) most_weight && (nat_le (nth row 3) 1 && nat_le (nth row 4) (steal_masks - 1))))

-- two edges lead from one cluster to one other
abbrev pub same_ends : List ℕ → List ℕ → Bool
same_ends x y = (nth x 0 == nth y 0) && (nth x 1 == nth y 1)

-- no pair of clusters has two edges
abbrev pub ends_differ : List (List ℕ) → Bool
ends_differ [] = true
ends_differ (row ∷ rows) = not (list_any (same_ends row) rows) && ends_differ rows

-- at most 56 edges
abbrev pub edges_in_range : ℕ → List (List ℕ) → Bool
edges_in_range count edges = nat_le (length edges) most_edges && (list_all (is_edge_row count) edges && ends_differ edges)

-- 1 to 64 groups, whose preferred clusters are there
abbrev pub groups_in_range : ℕ → List (List ℕ) → Bool
groups_in_range count groups = between 1 most_groups (length groups) && list_all (all_below count) groups

-- 1 to 4096 threads
abbrev pub threads_in_range : ℕ → Bool
threads_in_range threads = between 1 most_threads threads

-- one of the three rows of a cluster's times: WCEL, WARP and QUANTUM
abbrev pub row_of_times : List (List ℕ) → ℕ → List ℕ
row_of_times rows i = slice_index_or rows i []

-- the times of one cluster, each row by bucket index: all in range, and WCEL and WARP of UI are 0
abbrev pub is_times_row : List (List ℕ) → Bool
is_times_row rows =
    (list_all (λ n. nat_le n most_wcel) (row_of_times rows 0) && list_all (λ n. nat_le n most_warp) (row_of_times rows 1))
    && (list_all (between least_quantum most_quantum) (row_of_times rows 2)
    && ((nth (row_of_times rows 0) 0 == 0) && (nth (row_of_times rows 1) 0 == 0)))

-- as many times as clusters
abbrev pub times_in_range : ℕ → List (List (List ℕ)) → Bool
times_in_range count times = (length times == count) && list_all is_times_row times

-- a field, and whether it is in range
pub record Ranged : Type 0 where
  pub field : Field
  pub holds : Bool

-- a field and whether it is in range, put together
abbrev pub ranged : Field → Bool → Ranged
ranged field holds = record { field = field; holds = holds }

-- the first field that is out of range
abbrev pub first_out : List Ranged → Option Field
first_out [] = None
first_out (r ∷ rs) = if r.holds then first_out rs else Some r.field

-- the fields that both versions have, in their order
abbrev pub common_ranges : List (List ℕ) → List (List ℕ) → List (List ℕ) → ℕ → List Ranged
common_ranges clusters edges groups threads =
    ranged fields.Clusters (clusters_in_range clusters)
    ∷ ranged fields.Edges (edges_in_range (length clusters) edges)
    ∷ ranged fields.Groups (groups_in_range (length clusters) groups)
    ∷ ranged fields.Threads (threads_in_range threads) ∷ []

-- the first field out of range of a setup of version 1, whose version is in range where it is 1
abbrev pub first_out_of_range : List (List ℕ) → List (List ℕ) → List (List ℕ) → ℕ → ℕ → Option Field
first_out_of_range clusters edges groups threads version =
    first_out (common_ranges clusters edges groups threads ++ ranged fields.Version (version == 1) ∷ [])

-- the first field out of range of a setup of version 2
abbrev pub first_out_of_range_timed : List (List ℕ) → List (List ℕ) → List (List ℕ) → ℕ → List (List (List ℕ)) → Option Field
first_out_of_range_timed clusters edges groups threads times =
    first_out (common_ranges clusters edges groups threads ++ ranged fields.Times (times_in_range (length clusters) times) ∷ [])

-- the cluster of a row
abbrev pub cluster_of_row : List ℕ → ClusterParts
cluster_of_row row = record { cpus = nth row 0; rate = nth row 1 }

-- the edge of a row
abbrev pub edge_of_row : List ℕ → EdgeSpec
edge_of_row row = record { from = nth row 0; to = nth row 1; weight = nth row 2; migrate = nth row 3 == 1; steal = nth row 4 }

-- the times of a bucket index, of the three rows of a cluster
abbrev pub times_of_rows : List (List ℕ) → ℕ → Times
times_of_rows rows i = record { wcel = nth (row_of_times rows 0) i; warp = nth (row_of_times rows 1) i; quantum = nth (row_of_times rows 2) i }

-- the setup of version 1 that such numbers make
abbrev pub parts_of : List (List ℕ) → List (List ℕ) → List (List ℕ) → ℕ → SetupParts
parts_of clusters edges groups threads = record {
  clusters = map cluster_of_row clusters;
  edges = map edge_of_row edges;
  groups = groups;
  threads = threads;
  times = map (λ _. map times_of_version_one all_buckets) clusters;
  version = 1;
}

-- the setup of version 2 that they make with times
abbrev pub parts_of_timed : List (List ℕ) → List (List ℕ) → List (List ℕ) → ℕ → List (List (List ℕ)) → SetupParts
parts_of_timed clusters edges groups threads times = record {
  clusters = map cluster_of_row clusters;
  edges = map edge_of_row edges;
  groups = groups;
  threads = threads;
  times = map (λ rows. map (times_of_rows rows) (numbers_below 6)) times;
  version = 2;
}
