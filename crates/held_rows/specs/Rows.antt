-- What the rows are played with.
use Rattle.std.specs.Prelude.{List, None, [], false, true, ℕ, ◌≡◌, ◌≤◌, ◌∷◌}
use Rattle.sched_base.specs.declared.Bucket.TheVariants.{Fg}
use Rattle.sched_base.specs.declared.Spot.TheVariants as spots
use Rattle.flat_policy.specs.Policy.Setup.{SetupParts, actor_count, cluster_count, home_of, migrates, preferred_cluster}
use Rattle.flat_policy.specs.Runs.Worker.{PowerAt, Program}
use Rattle.cells.specs.Lines.{left_at}
use Rattle.cells.specs.Packs.{Amounts}

-- a program: 5000 units of work, bound nowhere
abbrev pub row_program : ℕ → Program
row_program name = record { name = name; group = 0; bucket = Fg; base = 31; bound = None; spans = 5000 ∷ [] }

-- the two programs
abbrev pub row_programs : List Program
row_programs = row_program 3 ∷ row_program 7 ∷ []

-- the powers: cluster 0 is turned off in turn 0, and on in turn 1
abbrev pub row_powers : List PowerAt
row_powers = record { cluster = 0; on = false; turn = 0 } ∷ record { cluster = 0; on = true; turn = 1 } ∷ []

-- what the rows ask of a setup: two clusters, the first with actors 0 and 1 and the second with actor 2, of which threads of group 0 prefer
-- the first and may move to the second, and room for two threads
pub record IsPair (setup : SetupParts) : Type 0 where
  pub clusters : cluster_count setup ≡ 2
  pub actors : actor_count setup ≡ 3
  pub first_home : home_of setup 0 ≡ 0
  pub second_home : home_of setup 1 ≡ 0
  pub third_home : home_of setup 2 ≡ 1
  pub prefers : preferred_cluster setup 0 Fg ≡ 0
  pub moves : migrates setup 0 1 ≡ true
  pub threads : 2 ≤ setup.threads

-- an actor has a line right of its home and one of the yard
pub record HasTwo (setup : SetupParts) (actor : ℕ) (lines : Amounts) : Type 0 where
  pub home : 1 ≤ left_at (spots.Cluster (home_of setup actor)) lines
  pub yard : 1 ≤ left_at spots.Yard lines
