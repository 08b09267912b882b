-- Journals of the clusters and the yard and logs of the actors, each a history by itself, and the machine that they leave.
use Rattle.std.specs.Prelude.{Contains, List, None, [], length, map, slice_index_or, ℕ, ◌<◌, ◌≡◌}
use Rattle.flat_policy.specs.declared.journal.Line.{Line}
use Rattle.flat_policy.specs.Policy.Machine.{Hand, MachineState, Sleeper, Yard, empty_hand}
use Rattle.flat_policy.specs.Policy.Queue.{Flat, empty_flat}
use Rattle.flat_policy.specs.Policy.Setup.{SetupParts, actor_count, cluster_count}
use Rattle.flat_policy.specs.Runs.Hands.{Own, hand_after_all}
use Rattle.flat_policy.specs.Runs.Histories.{CRun, DueSleeper, RunYard, YRun}
use Rattle.flat_policy.specs.Runs.Worker.{Program}

-- a blocked thread without its due moment
abbrev pub without_due : DueSleeper → Sleeper
without_due w = record { facts = w.facts; since = w.since }

-- the yard of a run without due moments, as the machine keeps it
abbrev pub yard_of_run : RunYard → Yard
yard_of_run y = record { blocked = map without_due y.blocked; ended = y.ended; made = y.made; last = y.last }

-- the machine with these queues and hands, and with the yard of a run
abbrev pub machine_of : List Flat → List Hand → RunYard → MachineState
machine_of flats hands y = record { flats = flats; hands = hands; yard = yard_of_run y }

-- the hands that logs leave, one for each actor
abbrev pub hands_left : SetupParts → List (List Line) → List Hand
hands_left setup logs = map (hand_after_all setup (empty_hand setup 0)) logs

-- a journal for each cluster that leads its queue to the end of that place, one for the yard, and a log for each actor that its hand allows
pub record RunApart (setup : SetupParts) (clusters : List (List Line)) (yard : List Line) (logs : List (List Line)) (flats : List Flat) (end : RunYard) : Type 0 where
  pub as_many_journals : length clusters ≡ cluster_count setup
  pub as_many_ends : length flats ≡ cluster_count setup
  pub as_many_logs : length logs ≡ actor_count setup
  pub at_clusters : (c : ℕ) → c < cluster_count setup → CRun setup c (slice_index_or clusters c []) (slice_index_or flats c (empty_flat 0))
  pub in_yard : YRun setup yard end
  pub of_actors : (a : ℕ) → a < actor_count setup → Own setup a (slice_index_or logs a [])

-- the logs end with empty hands
abbrev pub EndEmptyHanded : SetupParts → List (List Line) → Type 0
EndEmptyHanded setup logs = (a : ℕ) → a < actor_count setup → (hand_after_all setup (empty_hand setup 0) (slice_index_or logs a [])).thread ≡ None

-- nothing is left over: no queue has an entry, no hand a thread, and no thread is blocked
pub record NothingLeft (setup : SetupParts) (logs : List (List Line)) (flats : List Flat) (end : RunYard) : Type 0 where
  pub queues : (c : ℕ) → c < cluster_count setup → (slice_index_or flats c (empty_flat 0)).entries ≡ []
  pub hands : EndEmptyHanded setup logs
  pub blocked : end.blocked ≡ []

-- there is no more than one program of each name
abbrev pub HaveOwnNames : List Program → Type 0
HaveOwnNames ps = (p q : Program) → Contains ps p → Contains ps q → p.name ≡ q.name → p ≡ q
