-- The taking: lines taken one at a time from what is left of journals and logs.
use Rattle.std.specs.Prelude.{List, None, Option, Some, [], length, slice_get, slice_index_or, take, ℕ, ⊤, ◌++◌, ◌+◌, ◌-◌, ◌<◌, ◌∷◌, ◌≡◌, ◌≤◌, map}
use Rattle.sched_base.specs.declared.Spot.{Spot}
use Rattle.sched_base.specs.declared.Spot.TheVariants as spots
use Rattle.flat_policy.specs.Runs.Histories.{actor_of}
use Rattle.flat_policy.specs.Runs.Interleaving.{Interleaves, lines_at_cluster, lines_in_yard, lines_of_actor, spot_by_journals}
use Rattle.flat_policy.specs.Runs.Journals.{JournalParts}
use Rattle.flat_policy.specs.declared.journal.Line.{Line}

-- the lines of each of some journals
abbrev pub lines_of : List JournalParts → List (List Line)
lines_of journals = map (λ (j : JournalParts). j.lines) journals

-- the lines of the clusters' journals: all but the last
abbrev pub clusters_of : List JournalParts → List (List Line)
clusters_of journals = take (length journals - 1) (lines_of journals)

-- the lines of the yard's journal, the last
abbrev pub yard_of : List JournalParts → List Line
yard_of journals = slice_index_or (lines_of journals) (length journals - 1) []

-- the lines of a spot's journal; none where no such journal is given
abbrev pub journal_at : List (List Line) → List Line → Spot → List Line
journal_at clusters yard (spots.Cluster c) = slice_index_or clusters c []
journal_at clusters yard spots.Yard = yard

-- lines restricted to a spot
abbrev pub lines_at_spot : List (List Line) → Spot → List Line → List Line
lines_at_spot clusters (spots.Cluster c) history = lines_at_cluster clusters c history
lines_at_spot clusters spots.Yard history = lines_in_yard clusters history

-- the next line of a spot: the one of its journal behind those taken
abbrev pub next_at : List (List Line) → List Line → List Line → Spot → Option Line
next_at clusters yard history s = slice_get (journal_at clusters yard s) (length (lines_at_spot clusters s history))

-- the next line of an actor: the one of its log behind those taken
abbrev pub next_of : List (List Line) → List Line → ℕ → Option Line
next_of logs history a = slice_get (slice_index_or logs a []) (length (lines_of_actor a history))

-- a line is the next of a spot, or there is no spot
abbrev pub IsNextAt : List (List Line) → List Line → List Line → Line → Option Spot → Type 0
IsNextAt clusters yard history l None = ⊤
IsNextAt clusters yard history l (Some s) = next_at clusters yard history s ≡ Some l

-- after some lines a line can be taken: it is the next of its actor, and the next of its spot where it has one
pub record CanTake (clusters : List (List Line)) (yard : List Line) (logs : List (List Line)) (history : List Line) (l : Line) : Type 0 where
  pub of_actor : next_of logs history (actor_of l) ≡ Some l
  pub at_spot : IsNextAt clusters yard history l (spot_by_journals clusters l)

-- a line is that of the lowest actor whose next line can be taken
pub record TakesLowest (clusters : List (List Line)) (yard : List Line) (logs : List (List Line)) (history : List Line) (l : Line) : Type 0 where
  pub can : CanTake clusters yard logs history l
  pub lowest : (m : Line) → CanTake clusters yard logs history m → actor_of l ≤ actor_of m

-- after some lines, each further one is that of the lowest actor whose next line can be taken
abbrev pub TakesFrom : List (List Line) → List Line → List (List Line) → List Line → List Line → Type 0
TakesFrom clusters yard logs before [] = ⊤
TakesFrom clusters yard logs before (l ∷ ls) =
    TakesLowest clusters yard logs before l × TakesFrom clusters yard logs (before ++ l ∷ []) ls

-- each line of a history is that of the lowest actor whose next line can be taken
abbrev pub IsTaking : List (List Line) → List Line → List (List Line) → List Line → Type 0
IsTaking clusters yard logs history = TakesFrom clusters yard logs [] history
