-- What the queue in code means, and what each of its calls makes of it.
use Rattle.std.specs.Prelude.{Bool, Contains, List, None, Option, Some, length, map, if◌then◌else◌, true, ℕ, ◌+◌, ◌<◌, ◌^◌, ◌≡◌, ◌≤◌, vec_capacity}
use Rattle.sched_base.specs.Limits.{most_groups, most_threads}
use Rattle.bucket_tables.specs.declared.Lane.{Lane}
use Rattle.flat_policy.specs.Policy.Clusters.{slots_without}
use Rattle.flat_policy.specs.Policy.Moves.{removed, removed_by_selection}
use Rattle.flat_policy.specs.Policy.Queue.{Flat, LaneState, Queued, has_entries, timeshare_lanes}
use Rattle.flat_policy.specs.Policy.Windows.{Choice, chosen, windows_after}
use Rattle.flat_policy.specs.Policy.WellFormed.{WellFormed}
use Rattle.link_arena.specs.Arena.{value_at}
use Rattle.thread_queue.specs.Item.{entry_of}
use Rattle.thread_queue.specs.declared.item.Item.{Item}
use Rattle.windows.specs.Flags.{AreWindowsOf}
use Rattle.cluster_queue.specs.Heaps.{AreItems, HeapsFollow, spans_in, turns_in}
use Rattle.cluster_queue.specs.Rows.{ArrivalsApart, entries_in, slots_in}
use Rattle.cluster_queue.specs.declared.queue.Queue.{Queue}

-- the queue as the policy defines it: entries by the arena, spans and turns by the units of the lanes
abbrev pub flat_of : Queue → Flat
flat_of q = record {
  entries = entries_in q.arena q.next_arrival;
  spans = spans_in q.heaps q.groups;
  turns = turns_in q.heaps q.groups;
  lanes = q.windows.lanes;
  last = q.last;
  next_arrival = q.next_arrival;
  next_turn = q.next_turn;
  on = q.on;
}

-- the slot of each entry
abbrev pub slots_of : Queue → List ℕ
slots_of q = slots_in q.arena q.next_arrival

-- the heaps follow the queue, its items are in range, each with an arrival of its own, they are counted, and there is room
pub record IsStored (q : Queue) : Type 0 where
  pub heaps : HeapsFollow q.arena q.heaps q.groups (flat_of q)
  pub items : AreItems q.arena q.groups
  pub arrivals : ArrivalsApart q.arena q.next_arrival
  pub len : q.len ≡ length (flat_of q).entries
  pub few_groups : q.groups ≤ most_groups
  pub list_room : most_threads ≤ vec_capacity q.heaps.slots
  pub spare : q.spare ≤ q.arena.spare
  pub room : q.spare + q.len < 2 ^ 32

-- arena, heaps, counts and windows are those of the queue as the policy defines it
pub record IsNested (q : Queue) : Type 0 where
  pub stored : IsStored q
  pub windows : AreWindowsOf q.windows.times (flat_of q) q.windows

-- what every call of a queue asks: it is well-formed, and all its parts are those of it
pub record IsQueue (q : Queue) : Type 0 where
  pub formed : WellFormed q.groups (flat_of q)
  pub nested : IsNested q

-- the groups and the times stay
pub record SameSetting (q next : Queue) : Type 0 where
  pub groups : next.groups ≡ q.groups
  pub times : next.windows.times ≡ q.windows.times

-- an entry left, and the queue is then this one
pub record TakesOut (q next : Queue) (e : Queued) (s : Flat) : Type 0 where
  pub flat : flat_of next ≡ s
  pub slots : slots_of next ≡ slots_without e.arrival (flat_of q).entries (slots_of q)
  pub spare : next.spare ≡ q.spare + 1
  pub nested : IsNested next
  pub setting : SameSetting q next

-- no entry left, and the queue is then this one
pub record StaysWith (q next : Queue) (s : Flat) : Type 0 where
  pub flat : flat_of next ≡ s
  pub slots : slots_of next ≡ slots_of q
  pub spare : next.spare ≡ q.spare
  pub nested : IsNested next
  pub setting : SameSetting q next

-- an entry left, where there is one
abbrev pub Leaves : Queue → Queue → Option Queued → Flat → Type 0
Leaves q next None s = StaysWith q next s
Leaves q next (Some e) s = TakesOut q next e s

-- the ten timeshare lanes, in their order
abbrev pub AreTen : List LaneState → Type 0
AreTen lanes = map (λ (l : LaneState). l.lane) lanes ≡ timeshare_lanes

-- the windows alone changed: a lane with entries is chosen, and its windows change with it
pub record IsChosen (q next : Queue) (now : ℕ) (at : Lane) : Type 0 where
  pub choice : Choice
  pub chosen : chosen q.windows.times (flat_of q) ≡ Some choice
  pub lane : choice.lane ≡ at
  pub filled : has_entries (flat_of q) at ≡ true
  pub flat : flat_of next ≡ windows_after q.windows.times now choice.kind choice.lane (flat_of q)
  pub same : next ≡ record q { windows = next.windows }
  pub queue : IsQueue next
  pub times : next.windows.times ≡ q.windows.times

-- the queue after an entry leaves, picked or not
abbrev pub after_leaving : Bool → Queued → ℕ → Flat → Flat
after_leaving picked e now s = if picked then removed_by_selection e now s else removed e now s

-- the slot holds the item of an entry
pub record HoldsEntry (q : Queue) (slot : ℕ) (e : Queued) : Type 0 where
  pub item : Item
  pub stored : value_at q.arena slot ≡ Some item
  pub entry : entry_of item ≡ e

-- the slot, where there is one, holds the item of an entry of the queue; there is none only where nothing is queued
abbrev pub IsSomeSlot : Queue → Option ℕ → Type 0
IsSomeSlot q None = length (flat_of q).entries ≡ 0
IsSomeSlot q (Some slot) = (e : Queued) × (HoldsEntry q slot e × Contains (flat_of q).entries e)
