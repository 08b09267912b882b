-- What calls ask of the heaps, and what they make of the cluster's queue.
use Rattle.std.specs.Prelude.{[], Bool, Contains, None, Option, Some, if◌then◌else◌, is_some, length, option_map, vec_capacity, ℕ, ◌++◌, ◌<◌, ◌∷◌, ◌≡◌}
use Rattle.sched_base.specs.Limits.{most_clusters, most_threads}
use Rattle.sched_base.specs.declared.Bucket.{Bucket}
use Rattle.flat_policy.specs.Policy.Moves.{without}
use Rattle.flat_policy.specs.Policy.Queue.{Flat, Queued}
use Rattle.flat_policy.specs.Policy.WellFormed.{WellFormed}
use Rattle.link_arena.specs.Arena.{Arena, links_at, unlinked, value_at}
use Rattle.thread_queue.specs.Item.{entry_of}
use Rattle.thread_queue.specs.declared.item.Item.{Item}
use Rattle.clutch_bucket.specs.Lane.{IsNew, groups, with_unit_entry, without_unit_entry}
use Rattle.cluster_queue.specs.Heaps.{AreSix, HeapsFollow, ItemFits, lane_at}
use Rattle.cluster_queue.specs.declared.heaps.Heaps.{Heaps}

-- the queue after an item enters with its run span and blocked span: its entry comes last, and that of an unbound thread counts for its clutch bucket
abbrev pub with_item : ℕ → ℕ → Item → Flat → Flat
with_item ran blocked item s =
    if is_some item.thread.bound then record s { entries = s.entries ++ entry_of item ∷ [] }
    else with_unit_entry ran blocked item s

-- the queue after an item leaves, picked or not: its entry goes out, and that of an unbound thread out of its clutch bucket
abbrev pub without_item : Bool → Item → Flat → Flat
without_item picked item s =
    if is_some item.thread.bound then record s { entries = without item.arrival s.entries }
    else without_unit_entry picked item s

-- the heaps follow some queue, and a slot of the arena holds an item in range that is none of its entries, of which there are not too many
pub record CanEnter (arena : Arena Item) (heaps : Heaps) (slot : ℕ) : Type 0 where
  pub count : ℕ
  pub s : Flat
  pub follows : HeapsFollow arena heaps count s
  pub item : Item
  pub stored : value_at arena slot ≡ Some item
  pub fits : ItemFits count item
  pub fresh : IsNew s item
  pub few : length s.entries < most_threads

-- the heaps follow some well-formed queue, and a slot alone holds the item of one of its entries
pub record CanLeave (arena : Arena Item) (heaps : Heaps) (slot : ℕ) : Type 0 where
  pub count : ℕ
  pub s : Flat
  pub formed : WellFormed count s
  pub follows : HeapsFollow arena heaps count s
  pub item : Item
  pub stored : value_at arena slot ≡ Some item
  pub listed : Contains s.entries (entry_of item)
  pub prefer : item.thread.prefer < most_clusters
  pub once : (other : ℕ) (rival : Item) → value_at arena other ≡ Some rival → rival.arrival ≡ item.arrival → other ≡ slot

-- the slot enters the heaps, which then follow the queue with its item; items, spare slots and the room for a list stay
pub record Enters (old new : Arena Item) (before later : Heaps) (slot ran blocked turns turned : ℕ) : Type 0 where
  pub follows : (can : CanEnter old before slot) → turns ≡ can.s.next_turn → HeapsFollow new later can.count (with_item ran blocked can.item can.s)
  pub turn : (can : CanEnter old before slot) → turns ≡ can.s.next_turn → turned ≡ (with_item ran blocked can.item can.s).next_turn
  pub values : (other : ℕ) → value_at new other ≡ value_at old other
  pub spare : new.spare ≡ old.spare
  pub room : vec_capacity later.slots ≡ vec_capacity before.slots

-- the slot leaves the heaps, picked or not, which then follow the queue without its item, and its links lead nowhere; items, spare slots and the room for a list stay
pub record Leaves (old new : Arena Item) (before later : Heaps) (slot : ℕ) (picked : Bool) (turns turned : ℕ) : Type 0 where
  pub follows : (can : CanLeave old before slot) → turns ≡ can.s.next_turn → HeapsFollow new later can.count (without_item picked can.item can.s)
  pub turn : (can : CanLeave old before slot) → turns ≡ can.s.next_turn → turned ≡ (without_item picked can.item can.s).next_turn
  pub first : links_at new 0 slot ≡ unlinked
  pub second : links_at new 1 slot ≡ unlinked
  pub values : (other : ℕ) → value_at new other ≡ value_at old other
  pub spare : new.spare ≡ old.spare
  pub room : vec_capacity later.slots ≡ vec_capacity before.slots

-- the heaps follow some well-formed queue
pub record CanRead (arena : Arena Item) (heaps : Heaps) : Type 0 where
  pub count : ℕ
  pub s : Flat
  pub formed : WellFormed count s
  pub follows : HeapsFollow arena heaps count s

-- each lane has units for a group
pub record HasGroup (heaps : Heaps) (group : ℕ) : Type 0 where
  pub six : AreSix heaps
  pub within : (b : Bucket) → group < groups (lane_at heaps b)

-- the entry of the item in a slot, if there are both
abbrev pub entry_in : Arena Item → Option ℕ → Option Queued
entry_in arena None = None
entry_in arena (Some slot) = option_map entry_of (value_at arena slot)
