-- Lists of one place and of one actor, put together into one list.
use Rattle.std.specs.List.{list_any}
use Rattle.std.specs.Prelude.{Bool, List, None, Option, Some, [], false, filter, if◌then◌else◌, length, slice_index_or, true, ℕ, ⊤, ◌&&◌, ◌+◌, ◌<◌, ◌==◌, ◌∷◌, ◌≡◌}
use Rattle.sched_base.specs.declared.Spot.{Spot}
use Rattle.flat_policy.specs.declared.journal.Line.{Line}
use Rattle.flat_policy.specs.Policy.Machine.{Site, at_home, site_of, spot_from}
use Rattle.flat_policy.specs.Runs.Histories.{act_of, actor_of}
use Rattle.sched_base.specs.declared.Spot.TheVariants as spots

-- whether a site is its actor's home: that of a select, a pull or a refresh
abbrev pub is_at_home : Site → Bool
is_at_home at_home = true
is_at_home _ = false

-- whether a journal holds a select, pull or refresh of an actor
abbrev pub is_home_journal : ℕ → List Line → Bool
is_home_journal a ls = list_any (λ (l : Line). is_at_home (site_of (act_of l)) && (actor_of l == a)) ls

-- the first of some journals that holds such a line of an actor, with the clusters numbered from c on; 0 where none does
abbrev pub home_from : ℕ → ℕ → List (List Line) → ℕ
home_from a c [] = 0
home_from a c (j ∷ js) = if is_home_journal a j then c else home_from a (c + 1) js

-- the first cluster whose journal holds such a line of an actor; cluster 0 where none does
abbrev pub home_by_journals : List (List Line) → ℕ → ℕ
home_by_journals clusters a = home_from a 0 clusters

-- the spot of a line, by the journals of the clusters
abbrev pub spot_by_journals : List (List Line) → Line → Option Spot
spot_by_journals clusters l = spot_from (home_by_journals clusters (actor_of l)) (site_of (act_of l))

-- whether a spot is a cluster
abbrev pub is_spot_of : ℕ → Option Spot → Bool
is_spot_of c None = false
is_spot_of c (Some (spots.Cluster d)) = d == c
is_spot_of c (Some spots.Yard) = false

-- whether a spot is the yard
abbrev pub is_yard : Option Spot → Bool
is_yard None = false
is_yard (Some (spots.Cluster d)) = false
is_yard (Some spots.Yard) = true

-- lines restricted to a cluster, where each line has a spot or none
abbrev pub lines_at : (Line → Option Spot) → ℕ → List Line → List Line
lines_at spot c ls = filter (λ (l : Line). is_spot_of c (spot l)) ls

-- lines restricted to the yard
abbrev pub yard_lines : (Line → Option Spot) → List Line → List Line
yard_lines spot ls = filter (λ (l : Line). is_yard (spot l)) ls

-- lines restricted to a cluster, by the journals of the clusters
abbrev pub lines_at_cluster : List (List Line) → ℕ → List Line → List Line
lines_at_cluster clusters c ls = lines_at (spot_by_journals clusters) c ls

-- lines restricted to the yard, by the journals of the clusters
abbrev pub lines_in_yard : List (List Line) → List Line → List Line
lines_in_yard clusters ls = yard_lines (spot_by_journals clusters) ls

-- lines restricted to an actor
abbrev pub lines_of_actor : ℕ → List Line → List Line
lines_of_actor a ls = filter (λ (l : Line). actor_of l == a) ls

-- a spot is that of a given journal, or none
abbrev pub IsGivenSpot : ℕ → Option Spot → Type 0
IsGivenSpot count None = ⊤
IsGivenSpot count (Some (spots.Cluster c)) = c < count
IsGivenSpot count (Some spots.Yard) = ⊤

-- a line is of an actor with a given log, and has the spot of a given journal or none
abbrev pub IsGiven : List (List Line) → List (List Line) → Line → Type 0
IsGiven clusters logs l = (actor_of l < length logs) × IsGivenSpot (length clusters) (spot_by_journals clusters l)

-- a fact of each line
abbrev pub EachLine : (Line → Type 0) → List Line → Type 0
EachLine P [] = ⊤
EachLine P (l ∷ ls) = P l × EachLine P ls

-- history is an interleaving of journals and logs: restricted to each spot it is that journal, and restricted to each actor that log
pub record Interleaves (clusters : List (List Line)) (yard : List Line) (logs : List (List Line)) (history : List Line) : Type 0 where
  pub at_clusters : (c : ℕ) → c < length clusters → lines_at_cluster clusters c history ≡ slice_index_or clusters c []
  pub in_yard : lines_in_yard clusters history ≡ yard
  pub of_actors : (a : ℕ) → a < length logs → lines_of_actor a history ≡ slice_index_or logs a []
  pub given : EachLine (IsGiven clusters logs) history
