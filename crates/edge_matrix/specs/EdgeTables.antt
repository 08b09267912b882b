-- The edges of a setup as tables of eight rows and eight columns.
use Rattle.std.specs.Prelude.{List, [], if◌then◌else◌, map, slice_index, slice_index_or, ℕ, ◌≡◌}
use Rattle.sched_base.specs.Limits.{most_clusters}
use Rattle.flat_policy.specs.Policy.BuiltSetups.{IsSetup}
use Rattle.flat_policy.specs.Policy.Setup.{SetupParts, edge_weight, migrates, numbers_below, steal_mask}

-- what an edge carries, by the cluster that it leaves and the cluster that it leads to: its weight, 1 where threads may move
-- along it and 0 where not, and its mask
pub record EdgeTables : Type 0 where
  pub weights : List (List ℕ)
  pub migrates : List (List ℕ)
  pub steals : List (List ℕ)

-- the table of a number for each pair
unfoldable pub table_of : (ℕ → ℕ → ℕ) → List (List ℕ)
table_of number = map (λ i. map (number i) (numbers_below most_clusters)) (numbers_below most_clusters)

-- the number of a pair
abbrev pub number_at : List (List ℕ) → ℕ → ℕ → ℕ
number_at table i j = slice_index (slice_index_or table i []) j

-- the edges of a setup
abbrev pub edges_of : SetupParts → EdgeTables
edges_of setup = record {
  weights = table_of (edge_weight setup);
  migrates = table_of (λ i j. if migrates setup i j then 1 else 0);
  steals = table_of (steal_mask setup);
}

-- tables that are those of a setup
pub record AreEdges (t : EdgeTables) : Type 0 where
  pub setup : SetupParts
  pub built : IsSetup setup
  pub same : t ≡ edges_of setup
