-- How a setup lies in its fields.
use Rattle.std.specs.Prelude.{All, List, length, map, slice_index, take, ℕ, ◌+◌, ◌<◌, ◌^◌, ◌≡◌}
use Rattle.sched_base.specs.Limits.{most_clusters}
use Rattle.flat_policy.specs.Policy.BuiltSetups.{IsSetup}
use Rattle.flat_policy.specs.Policy.Ranges.{times_of_rows}
use Rattle.flat_policy.specs.Policy.Setup.{ClusterParts, SetupParts, actor_count, numbers_below}
use Rattle.flat_policy.specs.declared.setup.ClusterSize.{ClusterSize}
use Rattle.flat_policy.specs.declared.setup.Setup.TheInside.{Inside}
use Rattle.flat_policy.specs.declared.setup.Times.{Times}

-- a cluster's size
abbrev pub parts_of_size : ClusterSize → ClusterParts
parts_of_size k = record { cpus = k.cpus; rate = k.rate }

-- the times of a bucket index in a row of eighteen: WCEL, WARP and QUANTUM of the six, one after the other
abbrev pub times_in_row : List ℕ → ℕ → Times
times_in_row row b = record { wcel = slice_index row b; warp = slice_index row (b + 6); quantum = slice_index row (b + 12) }

-- the times of all bucket indices in a row of eighteen
abbrev pub row_times : List ℕ → List Times
row_times row = map (times_in_row row) (numbers_below 6)

-- the parts of a setup; rows of the table past its clusters mean nothing
abbrev pub inside_parts : Inside → SetupParts
inside_parts s = record {
  clusters = map parts_of_size s.clusters.items;
  edges = s.edges.items;
  groups = s.groups.items;
  threads = s.threads;
  times = map row_times (take (length s.clusters.items) s.times);
  version = s.version;
}

-- what the fields keep: the parts are a setup's, and the actors are counted
pub record IsInside (s : Inside) : Type 0 where
  pub setup : IsSetup (inside_parts s)
  pub actors : s.actors ≡ actor_count (inside_parts s)
  pub rows : length s.times ≡ most_clusters

-- a cluster's size out of its row of numbers
abbrev pub size_of_row : List ℕ → ClusterSize
size_of_row row = record { cpus = slice_index row 0; rate = slice_index row 1 }

-- the times of one cluster out of its rows
abbrev pub times_of_cluster : List (List ℕ) → List Times
times_of_cluster rows = map (times_of_rows rows) (numbers_below 6)

-- a row of a cluster whose numbers fit the fields
abbrev pub FitsSize : List ℕ → Type 0
FitsSize row = (slice_index row 0 < 2 ^ 8) × (slice_index row 1 < 2 ^ 32)

-- a row of an edge whose numbers fit the fields
abbrev pub FitsEdge : List ℕ → Type 0
FitsEdge row =
    (slice_index row 0 < 2 ^ 8) × (slice_index row 1 < 2 ^ 8) × (slice_index row 2 < 2 ^ 32) × (slice_index row 4 < 2 ^ 8)

-- a row of a group whose numbers fit the fields
abbrev pub FitsGroup : List ℕ → Type 0
FitsGroup row = All (λ c. c < 2 ^ 8) row

-- rows of six numbers each
abbrev pub HasSixes : List (List ℕ) → Type 0
HasSixes rows = All (λ row. length row ≡ 6) rows
