-- Laws of well-formed queues: the empty queue is one, and each step at a cluster keeps it so.
use Rattle.std.specs.Prelude.{Bool, Contains, List, length, ℕ, ◌*◌, ◌+◌, ◌<◌, ◌≤◌}
use Rattle.sched_base.specs.declared.Bucket.{Bucket}
use Rattle.sched_base.specs.declared.Facts.{Facts}
use Rattle.flat_policy.specs.declared.journal.Line.{Line}
use Rattle.flat_policy.specs.Policy.ClusterSteps.{enter_event, look_event, offer_event, power_event, pull_event, refresh_event, select_event}
use Rattle.flat_policy.specs.Policy.Queue.{Flat, Queued, empty_flat}
use Rattle.flat_policy.specs.Policy.Setup.{SetupParts, group_count}
use Rattle.flat_policy.specs.Policy.Threads.{ThreadFits}
use Rattle.flat_policy.specs.Runs.Histories.{CRun}
use Rattle.sched_base.specs.Limits.{most_threads}
use Rattle.flat_policy.specs.Policy.WellFormed.{WellFormed}

-- a queue without entries is well-formed
abbrev pub EmptyIsWellFormed : Type 0
EmptyIsWellFormed = (groups : ℕ) → WellFormed groups (empty_flat groups)

-- the queue after each step at a cluster is well-formed: an enter asks for room and for a thread that fits, and a pull for an entry that stands there
pub record StaysWellFormed (setup : SetupParts) (s : Flat) : Type 0 where
  pub entering : (c : ℕ) (t : Facts) (head : Bool) (now : ℕ) → length s.entries < most_threads → ThreadFits setup t → WellFormed (group_count setup) (enter_event setup c t head now s).flat
  pub selecting : (c now : ℕ) → WellFormed (group_count setup) (select_event setup c now s).flat
  pub offering : (from to now : ℕ) → WellFormed (group_count setup) (offer_event setup from to now s).flat
  pub pulling : (e : Queued) (now : ℕ) → Contains s.entries e → WellFormed (group_count setup) (pull_event e now s).flat
  pub looking : (c : ℕ) (b : Bucket) (now : ℕ) → WellFormed (group_count setup) (look_event setup c b now s).flat
  pub refreshing : (now : ℕ) → WellFormed (group_count setup) (refresh_event setup now s).flat
  pub powering : (on : Bool) (now : ℕ) → WellFormed (group_count setup) (power_event on now s).flat

-- every step at a cluster keeps its queue well-formed
abbrev pub StepsKeepWellFormed : Type 0
StepsKeepWellFormed = (setup : SetupParts) (s : Flat) → WellFormed (group_count setup) s → StaysWellFormed setup s

-- every history of a cluster leaves its queue well-formed
abbrev pub HistoriesKeepWellFormed : Type 0
HistoriesKeepWellFormed = (setup : SetupParts) (c : ℕ) (ls : List Line) (end : Flat) → CRun setup c ls end → WellFormed (group_count setup) end

-- the next arrival and the next turn rise by at most these numbers
pub record RisesBy (arrivals turns : ℕ) (s next : Flat) : Type 0 where
  pub arrival : next.next_arrival ≤ s.next_arrival + arrivals
  pub turn : next.next_turn ≤ s.next_turn + turns

-- how far each step at a cluster raises them: an enter both by one, a removal the turn by one, and a refresh the turn by one for each clutch bucket
pub record StepRises (setup : SetupParts) (s : Flat) : Type 0 where
  pub entering : (c : ℕ) (t : Facts) (head : Bool) (now : ℕ) → RisesBy 1 1 s (enter_event setup c t head now s).flat
  pub selecting : (c now : ℕ) → RisesBy 0 1 s (select_event setup c now s).flat
  pub offering : (from to now : ℕ) → RisesBy 0 1 s (offer_event setup from to now s).flat
  pub pulling : (e : Queued) (now : ℕ) → RisesBy 0 1 s (pull_event e now s).flat
  pub looking : (c : ℕ) (b : Bucket) (now : ℕ) → RisesBy 0 0 s (look_event setup c b now s).flat
  pub refreshing : (now : ℕ) → RisesBy 0 (group_count setup * 6) s (refresh_event setup now s).flat
  pub powering : (on : Bool) (now : ℕ) → RisesBy 0 0 s (power_event on now s).flat

-- every step at a cluster raises them by no more
abbrev pub StepsRiseByFew : Type 0
StepsRiseByFew = (setup : SetupParts) (s : Flat) → StepRises setup s
