-- What a cluster in code is: a queue, the slots in which its entries lie, and how many more entries it takes without memory.
use Rattle.std.specs.Prelude.{AllPairs, Bool, Contains, List, None, Option, Some, [], if◌then◌else◌, length, max, ℕ, ◌&&◌, ◌++◌, ◌+◌, ◌-◌, ◌<◌, ◌==◌, ◌^◌, ◌∷◌, ◌≡◌, ◌≢◌, ◌≤◌}
use Rattle.sched_base.specs.Limits.{most_threads}
use Rattle.sched_base.specs.declared.Facts.{Facts}
use Rattle.flat_policy.specs.Laws.Sound.{FlatFits}
use Rattle.flat_policy.specs.Policy.BuiltSetups.{IsSetup}
use Rattle.flat_policy.specs.Policy.ClusterSteps.{enter_event, flat_after_offer, touched}
use Rattle.flat_policy.specs.Policy.Moves.{pick, removed, selected}
use Rattle.flat_policy.specs.Policy.Offer.{offered_between}
use Rattle.flat_policy.specs.Policy.Queue.{Flat, Queued, empty_flat}
use Rattle.flat_policy.specs.Policy.Refresh.{refreshed}
use Rattle.flat_policy.specs.Policy.Setup.{SetupParts, cluster_count, cluster_times, group_count}

-- a cluster in code: its setup and number, its queue, the slot of each entry in the order of the entries, and its spare room
pub record ClusterView : Type 0 where
  pub setup : SetupParts
  pub number : ℕ
  pub flat : Flat
  pub slots : List ℕ
  pub spare : ℕ

-- what every cluster keeps: its setup is a built one and has its number, its queue is well-formed and in range with the threads in it,
-- no more threads are queued than may live, and each entry has a slot, no two the same
pub record IsCluster (v : ClusterView) : Type 0 where
  pub setup : IsSetup v.setup
  pub number : v.number < cluster_count v.setup
  pub fits : FlatFits v.setup v.flat
  pub few : length v.flat.entries ≤ most_threads
  pub slot_each : length v.slots ≡ length v.flat.entries
  pub slots_differ : AllPairs (λ i j. i ≢ j) v.slots

-- the next arrival and turn are so far from the end of their type that no step reaches it
pub record HasNumbers (s : Flat) : Type 0 where
  pub arrival : s.next_arrival < 2 ^ 62
  pub turn : s.next_turn < 2 ^ 62

-- the effective moment of a call at a cluster
abbrev pub moment_at : ClusterView → ℕ → ℕ
moment_at v now = max now v.flat.last

-- a new cluster
abbrev pub new_cluster : SetupParts → ℕ → ClusterView
new_cluster setup c = record { setup = setup; number = c; flat = empty_flat (group_count setup); slots = []; spare = 0 }

-- the cluster with another queue over the same slots
abbrev pub with_queue : Flat → ClusterView → ClusterView
with_queue s v = record v { flat = s }

-- the cluster after a thread entered, into a slot
abbrev pub entered_in : ClusterView → Facts → Bool → ℕ → ℕ → ClusterView
entered_in v t head now slot = record v {
  flat = (enter_event v.setup v.number t head (moment_at v now) v.flat).flat;
  slots = v.slots ++ slot ∷ [];
  spare = v.spare - 1;
}

-- the slots without that of the entry of an arrival
abbrev pub slots_without : ℕ → List Queued → List ℕ → List ℕ
slots_without arrival [] slots = slots
slots_without arrival (e ∷ es) [] = []
slots_without arrival (e ∷ es) (k ∷ ks) = if e.arrival == arrival then slots_without arrival es ks else k ∷ slots_without arrival es ks

-- the cluster after an entry left, with the queue that is then left
abbrev pub without_some : Option Queued → Flat → ClusterView → ClusterView
without_some None s v = with_queue s v
without_some (Some e) s v = record v { flat = s; slots = slots_without e.arrival v.flat.entries v.slots; spare = v.spare + 1 }

-- the pick, whether the cluster is on or off
abbrev pub pick_of : ClusterView → ℕ → Option Queued
pick_of v now = pick (cluster_times v.setup v.number) (moment_at v now) v.flat

-- the cluster after the pick is selected
abbrev pub after_select : ClusterView → ℕ → ClusterView
after_select v now = without_some (pick_of v now) (selected (cluster_times v.setup v.number) (moment_at v now) v.flat) v

-- the entry offered to another cluster
abbrev pub offer_of : ClusterView → ℕ → Option Queued
offer_of v to = offered_between v.setup v.number to v.flat

-- the cluster after the offered entry left
abbrev pub after_offer : ClusterView → ℕ → ℕ → ClusterView
after_offer v to now = without_some (offer_of v to) (flat_after_offer (moment_at v now) v.flat (offer_of v to)) v

-- the first of some entries that lies in a slot and has an arrival, by the slots in the order of the entries
abbrev pub standing_among : ℕ → ℕ → List Queued → List ℕ → Option Queued
standing_among slot arrival [] slots = None
standing_among slot arrival (e ∷ es) [] = None
standing_among slot arrival (e ∷ es) (k ∷ ks) = if (k == slot) && (e.arrival == arrival) then Some e else standing_among slot arrival es ks

-- the entry that stands in a slot with an arrival
abbrev pub standing : ClusterView → ℕ → ℕ → Option Queued
standing v slot arrival = standing_among slot arrival v.flat.entries v.slots

-- the cluster after an entry was pulled out, at a moment; as it was where there is none
abbrev pub after_pull : ClusterView → Option Queued → ℕ → ClusterView
after_pull v None now = v
after_pull v (Some e) now = without_some (Some e) (removed e (moment_at v now) v.flat) v

-- the cluster after a refresh
abbrev pub after_refresh : ClusterView → ℕ → ClusterView
after_refresh v now = with_queue (refreshed (group_count v.setup) v.flat (moment_at v now)) v

-- the cluster turned on or off
abbrev pub after_turn : ClusterView → Bool → ℕ → ClusterView
after_turn v on now = with_queue (record v.flat { on = on; last = moment_at v now }) v

-- the cluster with another last moment alone
abbrev pub after_touch : ClusterView → ℕ → ClusterView
after_touch v now = with_queue (touched (moment_at v now) v.flat) v

-- an entry is one of a queue; none exactly where the queue has none
abbrev pub IsSomeEntry : Flat → Option Queued → Type 0
IsSomeEntry s None = length s.entries ≡ 0
IsSomeEntry s (Some e) = Contains s.entries e

-- the entries and the spare room are together as many as before
abbrev pub SameRoom : ClusterView → ClusterView → Type 0
SameRoom v next = next.spare + length next.flat.entries ≡ v.spare + length v.flat.entries

-- a thread of a name stands in a slot with an arrival
abbrev pub NameStands : ClusterView → ℕ → ℕ → ℕ → Type 0
NameStands v slot arrival name = (e : Queued) × (standing v slot arrival ≡ Some e) × (e.facts.name ≡ name)

-- an entry, where there is one, is of another name
abbrev pub IsOther : ℕ → Option Queued → Type 0
IsOther name None = Unit {0}
IsOther name (Some e) = e.facts.name ≢ name
