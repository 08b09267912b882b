-- How far a taking has come, by the number of lines taken of each journal and each log.
use Rattle.std.specs.Prelude.{List, None, Option, Some, [], if◌then◌else◌, length, nat_lt, slice_get, slice_index, slice_index_or, slice_set, ℕ, ⊤, ◌+◌, ◌-◌, ◌<◌, ◌≡◌}
use Rattle.std.specs.Option.{MatchOption}
use Rattle.sched_base.specs.declared.Spot.{Spot}
use Rattle.sched_base.specs.declared.Spot.TheVariants as spots
use Rattle.flat_policy.specs.Policy.Machine.{site_of, spot_from}
use Rattle.flat_policy.specs.Runs.Histories.{act_of}
use Rattle.flat_policy.specs.Runs.Journals.{JournalParts}
use Rattle.flat_policy.specs.declared.journal.Line.{Line}
use Rattle.stitch.specs.Taking.{lines_of}

-- the place of a spot's journal among some journals, the yard's last; none where it isn't given
abbrev pub place_in : ℕ → Spot → Option ℕ
place_in count (spots.Cluster c) = if nat_lt c (count - 1) then Some c else None
place_in count spots.Yard = Some (count - 1)

-- the place of the journal of a spot or none
abbrev pub place_by : ℕ → Option Spot → Option ℕ
place_by count None = None
place_by count (Some s) = place_in count s

-- the next line of the journal at a place or none
abbrev pub next_in : List JournalParts → List ℕ → Option ℕ → Option Line
next_in journals counts None = None
next_in journals counts (Some p) = slice_get (slice_index_or (lines_of journals) p []) (slice_index counts p)

-- the next line of an actor
abbrev pub next_log : List JournalParts → List ℕ → ℕ → Option Line
next_log logs counts a = slice_get (slice_index_or (lines_of logs) a []) (slice_index counts a)

-- one line more is taken at a place or none
abbrev pub counted : List ℕ → Option ℕ → List ℕ
counted counts None = counts
counted counts (Some p) = slice_set counts p (slice_index counts p + 1)

-- a line is the next of a spot, or there is no spot
abbrev pub FitsSpot : List JournalParts → List ℕ → Line → Option Spot → Type 0
FitsSpot journals counts l None = ⊤
FitsSpot journals counts l (Some s) = next_in journals counts (place_in (length journals) s) ≡ Some l

-- a line is the next of a log and of its spot
pub record IsReady (journals : List JournalParts) (counts : List ℕ) (home : ℕ) (log : List Line) (taken : ℕ) (l : Line) : Type 0 where
  pub next : slice_get log taken ≡ Some l
  pub fits : FitsSpot journals counts l (spot_from home (site_of (act_of l)))

-- a line is the next of an actor and of its spot
abbrev pub IsReadyOf : List JournalParts → List JournalParts → List ℕ → List ℕ → List ℕ → ℕ → Line → Type 0
IsReadyOf journals logs homes places actors a l =
    IsReady journals places (slice_index homes a) (slice_index_or (lines_of logs) a []) (slice_index actors a) l

-- no actor of a number of them has a line that can be taken
abbrev pub NoneReady : List JournalParts → List JournalParts → List ℕ → List ℕ → List ℕ → ℕ → Type 0
NoneReady journals logs homes places actors count =
    (a : ℕ) (l : Line) → a < count → IsReadyOf journals logs homes places actors a l → ⊥

-- a line is that of the lowest actor whose next line can be taken
pub record LowestReady (journals logs : List JournalParts) (homes places actors : List ℕ) (l : Line) : Type 0 where
  pub actor : ℕ
  pub within : actor < length logs
  pub ready : IsReadyOf journals logs homes places actors actor l
  pub lowest : NoneReady journals logs homes places actors actor

-- the line of the lowest actor whose next line can be taken, or none where no actor's can
abbrev pub IsLowestReady : List JournalParts → List JournalParts → List ℕ → List ℕ → List ℕ → Option Line → Type 0
IsLowestReady journals logs homes places actors o =
    MatchOption o (NoneReady journals logs homes places actors (length logs)) (λ l. LowestReady journals logs homes places actors l)
