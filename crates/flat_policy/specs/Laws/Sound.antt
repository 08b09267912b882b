-- Sound states: what every state of the machine keeps that a run reaches.
use Rattle.std.specs.Prelude.{Contains, IsTrue, Some, length, ℕ, ◌<◌, ◌≡◌}
use Rattle.sched_base.specs.Limits.{moment_limit}
use Rattle.sched_base.specs.declared.Facts.{Facts}
use Rattle.sched_base.specs.declared.Step.{Step}
use Rattle.flat_policy.specs.Policy.BuiltSetups.{IsSetup}
use Rattle.flat_policy.specs.Policy.Machine.{MachineState, Hand, Sleeper, Yard, empty_machine, fits_step, flat_at, hand_at, state_after}
use Rattle.flat_policy.specs.Policy.Queue.{Flat, Queued}
use Rattle.flat_policy.specs.Policy.Setup.{SetupParts, actor_count, cluster_count, group_count}
use Rattle.flat_policy.specs.Policy.Threads.{ThreadFits}
use Rattle.flat_policy.specs.Policy.WellFormed.{EachQueued, WellFormedWithin}

-- a queue is well-formed, whatever the number of its entries, and their threads and its last moment are in range
pub record FlatFits (setup : SetupParts) (s : Flat) : Type 0 where
  pub formed : WellFormedWithin (length s.entries) (group_count setup) s
  pub threads : EachQueued (λ (e : Queued). ThreadFits setup e.facts) s.entries
  pub last : s.last < moment_limit

-- a hand's thread and last moment are in range, and it has room for a look at each cluster
pub record HandFits (setup : SetupParts) (h : Hand) : Type 0 where
  pub thread : (t : Facts) → h.thread ≡ Some t → ThreadFits setup t
  pub looks : length h.looks ≡ cluster_count setup
  pub last : h.last < moment_limit

-- the blocked threads and the last moment of the yard are in range
pub record YardFits (setup : SetupParts) (y : Yard) : Type 0 where
  pub blocked : (w : Sleeper) → Contains y.blocked w → ThreadFits setup w.facts
  pub last : y.last < moment_limit

-- a state is sound: it has a queue for each cluster and a hand for each actor, and all of them fit
pub record Sound (setup : SetupParts) (g : MachineState) : Type 0 where
  pub flats_length : length g.flats ≡ cluster_count setup
  pub hands_length : length g.hands ≡ actor_count setup
  pub flats : (c : ℕ) → c < cluster_count setup → FlatFits setup (flat_at g c)
  pub hands : (a : ℕ) → a < actor_count setup → HandFits setup (hand_at g a)
  pub yard : YardFits setup g.yard

-- the state before any step is sound
abbrev pub EmptyIsSound : Type 0
EmptyIsSound = (setup : SetupParts) → Sound setup (empty_machine setup)

-- each step that the setup fits keeps a state sound
abbrev pub StepsKeepSound : Type 0
StepsKeepSound = (setup : SetupParts) (g : MachineState) (step : Step) → Sound setup g → IsTrue (fits_step setup step) → Sound setup (state_after setup g step)

-- a thread that fits a built setup prefers one of its clusters
abbrev pub FittingPrefersAmong : Type 0
FittingPrefersAmong = (setup : SetupParts) (t : Facts) → IsSetup setup → ThreadFits setup t → t.prefer < cluster_count setup
