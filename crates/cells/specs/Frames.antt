-- What a run is given: which programs may run in a setup, and what is told of programs and powers.
use Rattle.std.specs.BTreeMap.{is_at}
use Rattle.std.specs.Map.{lookup}
use Rattle.std.specs.Option.{option_map}
use Rattle.std.specs.Ordering.{nat_cmp}
use Rattle.std.specs.Prelude.{All, AllPairs, Bool, IsTrue, List, None, Option, [], filter, find, if◌then◌else◌, length, map, nat_lt, slice_index_or, slice_set, ℕ, ◌&&◌, ◌++◌, ◌<◌, ◌==◌, ◌∷◌, ◌≡◌, ◌≢◌, ◌≤◌}
use Rattle.edge_matrix.specs.EdgeTables.{EdgeTables, edges_of}
use Rattle.flat_policy.specs.declared.texts.Power.{Power}
use Rattle.flat_policy.specs.declared.texts.ProgramLine.{ProgramLine}
use Rattle.flat_policy.specs.Policy.Setup.{SetupParts}
use Rattle.flat_policy.specs.Runs.Worker.{PowerAt, Program, program_of as program_named}
use Rattle.flat_policy.specs.Texts.Streams.{program_fits}
use Rattle.trace_text.specs.Runs.{ProgramFits, power_of, program_of}

-- a program fits a setup: its numbers are in the ranges of lines, and its group and bound cluster are there
pub record FitsSetup (setup : SetupParts) (p : Program) : Type 0 where
  pub numbers : ProgramFits p
  pub there : IsTrue (program_fits setup p)

-- the programs of a run: each fits the setup, no two have one name, and there are no more than threads may live
pub record AreRunnable (setup : SetupParts) (ps : List Program) : Type 0 where
  pub each : All (FitsSetup setup) ps
  pub differ : AllPairs (λ (p q : Program). p.name ≢ q.name) ps
  pub few : length ps ≤ setup.threads

-- whether a cluster is turned on or off by its first actor in a turn; none where there is no such power, or powers aren't told for that turn
abbrev pub power_told : List PowerAt → ℕ → ℕ → ℕ → Option Bool
power_told powers turns cluster turn =
    if nat_lt turn turns then option_map (λ (p : PowerAt). p.on) (find (λ (p : PowerAt). (p.cluster == cluster) && (p.turn == turn)) powers)
    else None

-- powers in rows: each row has those of the turn of its number, in their order
abbrev pub AreByTurn : List Power → List (List Power) → Type 0
AreByTurn powers rows = (turn : ℕ) → turn < length rows → slice_index_or rows turn [] ≡ filter (λ (p : Power). p.turn == turn) powers

-- the rows with one more power at the end of that of its turn, where there is one
abbrev pub with_power : Power → List (List Power) → List (List Power)
with_power p rows = slice_set rows p.turn (slice_index_or rows p.turn [] ++ p ∷ [])

-- what a run is given, in code: the setup, the edges, the programs by name, and the powers by turn
pub record FrameParts : Type 0 where
  pub setup : SetupParts
  pub edges : EdgeTables
  pub programs : List (ℕ × ProgramLine)
  pub powers : List (List Power)

-- it is what the run of a setup, of some programs and of some powers is given
pub record IsFrame (setup : SetupParts) (programs : List Program) (powers : List PowerAt) (f : FrameParts) : Type 0 where
  pub setup_is : f.setup ≡ setup
  pub edges_are : f.edges ≡ edges_of setup
  pub runnable : AreRunnable setup programs
  pub named : (name : ℕ) → option_map program_of (lookup (is_at (nat_cmp name)) f.programs) ≡ program_named programs name
  -- each row has the powers of the turn of its number, in their order
  pub told : (turn : ℕ) → turn < length f.powers → map power_of (slice_index_or f.powers turn []) ≡ filter (λ (p : PowerAt). p.turn == turn) powers
