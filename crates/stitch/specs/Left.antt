-- What a taking leaves, by the number of lines taken of each journal and each log.
use Rattle.std.specs.Prelude.{List, None, Option, Some, [], if◌then◌else◌, length, slice_get, slice_index, slice_index_or, ℕ, ◌-◌, ◌<◌, ◌==◌, ◌≡◌}
use Rattle.sched_base.specs.declared.Spot.{Spot}
use Rattle.sched_base.specs.declared.Spot.TheVariants as spots
use Rattle.flat_policy.specs.Policy.Machine.{site_of, spot_from}
use Rattle.flat_policy.specs.Runs.Histories.{act_of, actor_of}
use Rattle.flat_policy.specs.Runs.Journals.{JournalParts}
use Rattle.flat_policy.specs.declared.journal.Line.{Line}
use Rattle.stitch.specs.Cursors.{next_in, next_log, place_in}
use Rattle.stitch.specs.Taking.{lines_of}
use Rattle.stitch.specs.declared.Astray.{Astray}

-- the spot of the journal at a place, the yard's last
abbrev pub spot_at : ℕ → ℕ → Spot
spot_at count p = if p == count - 1 then spots.Yard else spots.Cluster p

-- how many lines the journal at a place has, 0 for none
abbrev pub length_in : List JournalParts → Option ℕ → ℕ
length_in journals None = 0
length_in journals (Some p) = length (slice_index_or (lines_of journals) p [])

-- the journals at the first few places are used up
abbrev pub NoneLeftAt : List JournalParts → List ℕ → ℕ → Type 0
NoneLeftAt journals places count = (p : ℕ) → p < count → next_in journals places (Some p) ≡ None

-- the journal at a place has a line left
pub record LeavesAt (journals logs : List JournalParts) (places actors : List ℕ) (place : ℕ) (stop : Astray) : Type 0 where
  pub line : Line
  pub here : stop.here ≡ Some line
  pub next : next_in journals places (Some place) ≡ Some line
  pub spot : stop.spot ≡ spot_at (length journals) place
  pub index : stop.index ≡ slice_index places place
  pub actor : stop.actor ≡ actor_of line
  pub there : stop.there ≡ next_log logs actors stop.actor

-- the first place with a line left
pub record FirstLeftAt (journals logs : List JournalParts) (places actors : List ℕ) (stop : Astray) : Type 0 where
  pub place : ℕ
  pub within : place < length journals
  pub leaves : LeavesAt journals logs places actors place stop
  pub first : NoneLeftAt journals places place

-- the next line of a log, where it has one, happens in the hand alone
abbrev pub NextInHand : ℕ → List Line → ℕ → Type 0
NextInHand home log taken = (l : Line) → slice_get log taken ≡ Some l → spot_from home (site_of (act_of l)) ≡ None

-- the next line of a log of an actor has a spot
pub record LeavesOf (journals : List JournalParts) (home : ℕ) (log : List Line) (taken owner : ℕ) (stop : Astray) : Type 0 where
  pub line : Line
  pub here : stop.here ≡ None
  pub there : stop.there ≡ Some line
  pub next : slice_get log taken ≡ Some line
  pub spot : spot_from home (site_of (act_of line)) ≡ Some stop.spot
  pub index : stop.index ≡ length_in journals (place_in (length journals) stop.spot)
  pub actor : stop.actor ≡ owner

-- the next lines of the first few actors happen in the hand alone
abbrev pub AllInHand : List JournalParts → List ℕ → List ℕ → ℕ → Type 0
AllInHand logs homes actors count =
    (a : ℕ) → a < count → NextInHand (slice_index homes a) (slice_index_or (lines_of logs) a []) (slice_index actors a)

-- the first actor whose next line has a spot
pub record FirstLeftOf (journals logs : List JournalParts) (homes actors : List ℕ) (stop : Astray) : Type 0 where
  pub owner : ℕ
  pub within : owner < length logs
  pub leaves : LeavesOf journals (slice_index homes owner) (slice_index_or (lines_of logs) owner []) (slice_index actors owner) owner stop
  pub first : AllInHand logs homes actors owner
