-- Laws of clusters in code: each call leaves what every cluster keeps, and an entry leaves by its place.
use Rattle.std.specs.List.{remove}
use Rattle.std.specs.Prelude.{Bool, Contains, List, Some, length, slice_index_or, ℕ, ◌<◌, ◌≡◌, ◌≢◌, ◌≤◌}
use Rattle.sched_base.specs.Limits.{moment_limit, most_threads}
use Rattle.sched_base.specs.declared.Facts.{Facts}
use Rattle.flat_policy.specs.Laws.Kept.{RisesBy}
use Rattle.flat_policy.specs.Policy.Clusters.{ClusterView, IsCluster, IsOther, NameStands, SameRoom, after_offer, after_pull, after_refresh, after_select, after_touch, after_turn, entered_in, offer_of, pick_of, slots_without}
use Rattle.flat_policy.specs.Policy.Moves.{without}
use Rattle.flat_policy.specs.Policy.Queue.{Queued}
use Rattle.flat_policy.specs.Policy.Threads.{ThreadFits}
use Rattle.flat_policy.specs.Policy.WellFormed.{ArrivalsRise}

-- after each call a cluster keeps what it kept before: after an enter where there is room, the thread fits and the slot is free, after a pull
-- of an entry that stands there, and after every other; entries and spare room stay together as many, and a selection raises the next turn
-- by one at most
pub record StaysCluster (v : ClusterView) : Type 0 where
  pub entering : (t : Facts) (head : Bool) (now slot : ℕ) → length v.flat.entries < most_threads → ThreadFits v.setup t → now < moment_limit → ¬ Contains v.slots slot → IsCluster (entered_in v t head now slot)
  pub selecting : (now : ℕ) → now < moment_limit → IsCluster (after_select v now)
  pub offering : (to now : ℕ) → now < moment_limit → IsCluster (after_offer v to now)
  pub pulling : (e : Queued) (now : ℕ) → Contains v.flat.entries e → now < moment_limit → IsCluster (after_pull v (Some e) now)
  pub refreshing : (now : ℕ) → now < moment_limit → IsCluster (after_refresh v now)
  pub turning : (on : Bool) (now : ℕ) → now < moment_limit → IsCluster (after_turn v on now)
  pub touching : (now : ℕ) → now < moment_limit → IsCluster (after_touch v now)
  pub entering_room : (t : Facts) (head : Bool) (now slot : ℕ) → 1 ≤ v.spare → SameRoom v (entered_in v t head now slot)
  pub selecting_room : (now : ℕ) → SameRoom v (after_select v now)
  pub offering_room : (to now : ℕ) → SameRoom v (after_offer v to now)
  pub pulling_room : (e : Queued) (now : ℕ) → Contains v.flat.entries e → SameRoom v (after_pull v (Some e) now)
  pub selecting_rises : (now : ℕ) → RisesBy 0 1 v.flat (after_select v now).flat

-- every cluster stays one
abbrev pub CallsKeepClusters : Type 0
CallsKeepClusters = (v : ClusterView) → IsCluster v → StaysCluster v

-- the entry at a place leaves the entries, and its slot the slots
pub record LeavesItsPlace (es : List Queued) (ks : List ℕ) (e : Queued) (place : ℕ) : Type 0 where
  pub entries : without e.arrival es ≡ remove es place
  pub slots : slots_without e.arrival es ks ≡ remove ks place

-- where arrivals rise, an entry leaves by its place
abbrev pub EntriesLeaveByPlace : Type 0
EntriesLeaveByPlace =
    (es : List Queued) (ks : List ℕ) (e : Queued) (place : ℕ)
    → ArrivalsRise es → length ks ≡ length es → place < length es → slice_index_or es place e ≡ e → LeavesItsPlace es ks e place

-- each call leaves a thread standing in its slot with its arrival, but for the one that leaves, and one that entered stands where its ticket says
pub record KeepsStanding (v : ClusterView) : Type 0 where
  pub entering : (t : Facts) (head : Bool) (now slot other arrival name : ℕ) → NameStands v other arrival name → NameStands (entered_in v t head now slot) other arrival name
  pub entered : (t : Facts) (head : Bool) (now slot : ℕ) → ¬ Contains v.slots slot → NameStands (entered_in v t head now slot) slot v.flat.next_arrival t.name
  pub selecting : (now slot arrival name : ℕ) → IsOther name (pick_of v now) → NameStands v slot arrival name → NameStands (after_select v now) slot arrival name
  pub offering : (to now slot arrival name : ℕ) → IsOther name (offer_of v to) → NameStands v slot arrival name → NameStands (after_offer v to now) slot arrival name
  pub pulling : (e : Queued) (now slot arrival name : ℕ) → Contains v.flat.entries e → e.facts.name ≢ name → NameStands v slot arrival name → NameStands (after_pull v (Some e) now) slot arrival name
  pub refreshing : (now slot arrival name : ℕ) → NameStands v slot arrival name → NameStands (after_refresh v now) slot arrival name

-- every cluster does so
abbrev pub CallsKeepStanding : Type 0
CallsKeepStanding = (v : ClusterView) → IsCluster v → KeepsStanding v
