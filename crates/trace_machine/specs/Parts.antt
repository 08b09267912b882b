-- The clusters and the hands of a machine in code, and when an act at them does what the policy says.
use Rattle.std.specs.Prelude.{List, None, Option, Some, [], length, map, slice_index_or, sum_by, ℕ, ◌*◌, ◌+◌, ◌<◌, ◌≡◌, ◌≢◌, ◌≤◌, ◌^◌}
use Rattle.sched_base.specs.declared.Act.{Act}
use Rattle.sched_base.specs.declared.Answer.{Answer}
use Rattle.sched_base.specs.declared.Facts.{Facts}
use Rattle.sched_base.specs.declared.Ticket.{Ticket}
use Rattle.flat_policy.specs.Laws.Sound.{HandFits}
use Rattle.flat_policy.specs.Policy.BuiltSetups.{IsSetup}
use Rattle.flat_policy.specs.Policy.Clusters.{ClusterView, NameStands, standing}
use Rattle.flat_policy.specs.Policy.ClusterSteps.{named_entry}
use Rattle.flat_policy.specs.Policy.Machine.{Hand, MachineState, Outcome, Yard, accepted_by, no_hand}
use Rattle.flat_policy.specs.Policy.Queue.{Queued, empty_flat}
use Rattle.flat_policy.specs.Policy.Setup.{SetupParts, actor_count, cluster_count}
use Rattle.migration.specs.Looks.{looks_among}
use Rattle.trace_machine.specs.declared.hand.HeldHand.{HeldHand}

-- the setup, the clusters and the hands
pub record PartsView : Type 0 where
  pub setup : SetupParts
  pub clusters : List ClusterView
  pub hands : List Hand

-- a hand in code as the policy's: of its looks those at the setup's clusters count
abbrev pub hand_in : SetupParts → HeldHand → Hand
hand_in setup h = record { thread = h.thread; looks = looks_among setup h.looks; last = h.last }

-- a cluster that is not there
abbrev pub no_cluster : SetupParts → ClusterView
no_cluster setup = record { setup = setup; number = 0; flat = empty_flat 0; slots = []; spare = 0 }

-- a cluster by its number
abbrev pub cluster_at : PartsView → ℕ → ClusterView
cluster_at p c = slice_index_or p.clusters c (no_cluster p.setup)

-- an actor's hand
abbrev pub hand_of : PartsView → ℕ → Hand
hand_of p a = slice_index_or p.hands a no_hand

-- the policy's state with these clusters and hands, over a yard
abbrev pub state_of : PartsView → Yard → MachineState
state_of p y = record { flats = map (λ (v : ClusterView). v.flat) p.clusters; hands = p.hands; yard = y }

-- a cluster serves a machine that took so many steps at most: it has the setup and its number, room for every thread that may live, and next
-- numbers that the steps account for
pub record Serves (setup : SetupParts) (steps c : ℕ) (v : ClusterView) : Type 0 where
  pub of_setup : v.setup ≡ setup
  pub number : v.number ≡ c
  pub room : setup.threads ≤ v.spare + length v.flat.entries
  pub arrival : v.flat.next_arrival ≤ steps
  pub turn : v.flat.next_turn ≤ 384 * steps

-- each cluster serves
abbrev pub AllServe : ℕ → PartsView → Type 0
AllServe steps p = (c : ℕ) → c < cluster_count p.setup → Serves p.setup steps c (cluster_at p c)

-- the parts are those of a built setup, every cluster serves, and an actor is there whose hand is in range
pub record IsReady (p : PartsView) (a : ℕ) : Type 0 where
  pub setup : IsSetup p.setup
  pub clusters : length p.clusters ≡ cluster_count p.setup
  pub hands : length p.hands ≡ actor_count p.setup
  pub serve : AllServe (2 ^ 50) p
  pub actor : a < actor_count p.setup
  pub hand : HandFits p.setup (hand_of p a)

-- a thread, where there is one, is of another name
abbrev pub IsOtherThread : ℕ → Option Facts → Type 0
IsOtherThread name None = Unit {0}
IsOtherThread name (Some t) = t.name ≢ name

-- what the policy has of an accepted act
abbrev pub accepted_at : PartsView → Yard → ℕ → ℕ → Act → Outcome
accepted_at p y a now act = accepted_by p.setup (state_of p y) a (hand_of p a) now act

-- an accepted act comes to what the policy says, over any yard, which stays: its answer and the state after it. The clusters serve on with
-- one step more, and every thread of another name than the one that moves stands in its queue as it stood
pub record Does (old new : PartsView) (a now : ℕ) (act : Act) (answer : Answer) : Type 0 where
  pub keeps_setup : new.setup ≡ old.setup
  pub answers : (y : Yard) → (accepted_at old y a now act).answer ≡ answer
  pub leads : (y : Yard) → (accepted_at old y a now act).state ≡ state_of new y
  pub serves : (n : ℕ) → AllServe n old → AllServe (n + 1) new
  pub stands : (y : Yard) (c slot arrival name : ℕ) → IsOtherThread name (accepted_at old y a now act).thread
      → NameStands (cluster_at old c) slot arrival name → NameStands (cluster_at new c) slot arrival name

-- a ticket names the entry of a name in a queue
abbrev pub IsQueuedAs : ClusterView → ℕ → Ticket → Type 0
IsQueuedAs v name t = (e : Queued) × (standing v t.slot t.arrival ≡ Some e) × (named_entry v.flat name ≡ Some e)

-- how many threads are queued in clusters
abbrev pub queued_in : List ClusterView → ℕ
queued_in vs = sum_by (λ (v : ClusterView). length v.flat.entries) vs
