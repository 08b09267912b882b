-- Where a taking stops that leaves lines, and what `stitch` answers.
use Rattle.std.specs.Prelude.{Err, List, None, Ok, Option, Result, Some, [], length, slice_index_or, ℕ, ⊤, ◌<◌, ◌≡◌, ◌⊎◌}
use Rattle.sched_base.specs.declared.Spot.{Spot}
use Rattle.sched_base.specs.declared.Spot.TheVariants as spots
use Rattle.flat_policy.specs.Runs.Histories.{actor_of}
use Rattle.flat_policy.specs.Runs.Interleaving.{EachLine, Interleaves, spot_by_journals}
use Rattle.flat_policy.specs.Runs.Journals.{JournalParts}
use Rattle.flat_policy.specs.declared.journal.Line.{Line}
use Rattle.stitch.specs.Taking.{CanTake, IsTaking, clusters_of, journal_at, lines_at_spot, lines_of, next_at, next_of, yard_of}
use Rattle.stitch.specs.declared.Astray.{Astray}
use Rattle.stitch.specs.declared.StitchError.{StitchError}
use Rattle.stitch.specs.declared.StitchError.TheVariants as errors

-- the lines of each log are of the actor whose log it is
abbrev pub LogsAreOfActors : List (List Line) → Type 0
LogsAreOfActors logs = (a : ℕ) → a < length logs → EachLine (λ (l : Line). actor_of l ≡ a) (slice_index_or logs a [])

-- a spot comes before another: the clusters in order, and last the yard
abbrev pub ComesBefore : Spot → Spot → Type 0
ComesBefore (spots.Cluster c) (spots.Cluster d) = c < d
ComesBefore (spots.Cluster c) spots.Yard = ⊤
ComesBefore spots.Yard s = ⊥

-- a taking stops at the first spot with a line of its journal left
pub record StopsAtSpot (clusters : List (List Line)) (yard : List Line) (logs : List (List Line)) (history : List Line) (stop : Astray) : Type 0 where
  pub line : Line
  pub here : stop.here ≡ Some line
  pub next : next_at clusters yard history stop.spot ≡ Some line
  pub first : (s : Spot) → ComesBefore s stop.spot → next_at clusters yard history s ≡ None
  pub index : stop.index ≡ length (lines_at_spot clusters stop.spot history)
  pub actor : stop.actor ≡ actor_of line
  pub there : stop.there ≡ next_of logs history stop.actor

-- a taking that uses up all journals stops at the first actor with a line left
pub record StopsAtActor (clusters : List (List Line)) (yard : List Line) (logs : List (List Line)) (history : List Line) (stop : Astray) : Type 0 where
  pub line : Line
  pub used_up : (s : Spot) → next_at clusters yard history s ≡ None
  pub here : stop.here ≡ None
  pub there : stop.there ≡ Some line
  pub next : next_of logs history stop.actor ≡ Some line
  pub first : (a : ℕ) → a < stop.actor → next_of logs history a ≡ None
  pub spot : spot_by_journals clusters line ≡ Some stop.spot
  pub index : stop.index ≡ length (journal_at clusters yard stop.spot)

-- journals and logs have no interleaving, and a taking that no line can follow stops as told
pub record GoAstray (clusters : List (List Line)) (yard : List Line) (logs : List (List Line)) (stop : Astray) : Type 0 where
  pub none : (history : List Line) → Interleaves clusters yard logs history → ⊥
  pub taken : List Line
  pub taking : IsTaking clusters yard logs taken
  pub stuck : (l : Line) → CanTake clusters yard logs taken l → ⊥
  pub stops : StopsAtSpot clusters yard logs taken stop ⊎ StopsAtActor clusters yard logs taken stop

-- a history is the interleaving that takes at each point the lowest actor whose next line can be taken
pub record IsStitched (clusters : List (List Line)) (yard : List Line) (logs : List (List Line)) (history : List Line) : Type 0 where
  pub interleaves : Interleaves clusters yard logs history
  pub taking : IsTaking clusters yard logs history

-- an answer is that interleaving, or tells where lists go astray that have none; want of memory is free
abbrev pub Stitches : List (List Line) → List Line → List (List Line) → Result JournalParts StitchError → Type 0
Stitches clusters yard logs (Ok history) = IsStitched clusters yard logs history.lines
Stitches clusters yard logs (Err (errors.Astray stop)) = GoAstray clusters yard logs stop
Stitches clusters yard logs (Err errors.Memory) = ⊤

-- an answer for journals and logs
abbrev pub IsStitch : List JournalParts → List JournalParts → Result JournalParts StitchError → Type 0
IsStitch journals logs answer = Stitches (clusters_of journals) (yard_of journals) (lines_of logs) answer
