-- The setup that rows in range make, in either version.
use Rattle.std.specs.Prelude.{All, List, [], map, ℕ, ◌∷◌, ◌≡◌, ◌⊎◌}
use Rattle.bucket_tables.specs.Tables.{by_bucket, quantum_of, warp_of, wcel_of}
use Rattle.flat_policy.specs.Policy.Ranges.{cluster_of_row, edge_of_row}
use Rattle.flat_policy.specs.Policy.Setup.{SetupParts}
use Rattle.flat_policy.specs.Representation.SetupInside.{times_of_cluster}

-- the parts of rows
abbrev pub parts_of_rows : List (List ℕ) → List (List ℕ) → List (List ℕ) → ℕ → List (List (List ℕ)) → ℕ → SetupParts
parts_of_rows clusters edges groups threads times version = record {
  clusters = map cluster_of_row clusters;
  edges = map edge_of_row edges;
  groups = groups;
  threads = threads;
  times = map times_of_cluster times;
  version = version;
}

-- the times of version 1, for one cluster
abbrev pub ordinary_rows : List (List ℕ)
ordinary_rows = by_bucket wcel_of ∷ by_bucket warp_of ∷ by_bucket quantum_of ∷ []

-- version 1 with its own times, or version 2
abbrev pub IsVersion : ℕ → List (List (List ℕ)) → Type 0
IsVersion version times = ((version ≡ 1) × All (λ rows. rows ≡ ordinary_rows) times) ⊎ (version ≡ 2)
