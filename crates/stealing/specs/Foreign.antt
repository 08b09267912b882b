-- What contracts say of the heaps of foreign threads: with their arena, they are eight heaps of slots, one for each cluster.
use Rattle.std.specs.Prelude.{Contains, List, None, Option, Some, filter, if◌then◌else◌, length, slice_index_or, true, ℕ, ◌+◌, ◌<◌, ◌==◌, ◌≡◌, ◌≢◌}
use Rattle.std.specs.List.{sum_by}
use Rattle.sched_base.specs.Limits.{most_clusters}
use Rattle.sched_base.specs.declared.Facts.{Facts}
use Rattle.flat_policy.specs.Laws.Choice.{OrdersMembers}
use Rattle.flat_policy.specs.Policy.Offer.{foreign_before, is_unbound, prefers}
use Rattle.flat_policy.specs.Policy.Queue.{Queued}
use Rattle.flat_policy.specs.Policy.Unpreceded.{IsUnpreceded, unpreceded}
use Rattle.link_arena.specs.Arena.{Arena, links_at, unlinked, value_at}
use Rattle.pairing_heap.specs.Heap.{Holds, Lacks, LinksOnly, Stands, pairs_at, times_of}
use Rattle.thread_queue.specs.Item.{entry_of, foreign_key_of_item, foreign_precedes}
use Rattle.thread_queue.specs.declared.item.Item.{Item}

-- the first slot of each cluster's heap, or none where it is empty, by cluster
abbrev pub Roots : Type 0
Roots = List (Option ℕ)

-- the first slot of the heap of those that prefer a cluster
abbrev pub heap_of : Roots → ℕ → Option ℕ
heap_of foreign to = slice_index_or foreign to None

-- how often a slot stands in the heap of those that prefer a cluster
abbrev pub times_in : Arena Item → Roots → ℕ → ℕ → ℕ
times_in arena foreign to slot = times_of (pairs_at 1 foreign_key_of_item arena (heap_of foreign to)) slot

-- how often a slot stands in all the heaps
abbrev pub times_anywhere : Arena Item → Roots → ℕ → ℕ
times_anywhere arena foreign slot = sum_by (λ root. times_of (pairs_at 1 foreign_key_of_item arena root) slot) foreign

-- the slot stands in the heap of those that prefer the cluster
abbrev pub HasSlot : Arena Item → Roots → ℕ → ℕ → Type 0
HasSlot arena foreign to slot = Holds 1 foreign_key_of_item arena (heap_of foreign to) slot

-- the slot stands in one of the heaps
abbrev pub IsHeld : Arena Item → Roots → ℕ → Type 0
IsHeld arena foreign slot = (to : ℕ) × HasSlot arena foreign to slot

-- the slot stands in none of the heaps
abbrev pub LacksSlot : Arena Item → Roots → ℕ → Type 0
LacksSlot arena foreign slot = (to : ℕ) → Lacks 1 foreign_key_of_item arena (heap_of foreign to) slot

-- the thread is unbound, and its preferred cluster is one of the eight
pub record IsForeign (thread : Facts) : Type 0 where
  pub unbound : is_unbound thread ≡ true
  pub cluster : thread.prefer < most_clusters

-- eight heaps stand in the arena, and each slot of a heap holds an unbound thread that prefers the heap's cluster
pub record StandsIn (arena : Arena Item) (foreign : Roots) : Type 0 where
  pub eight : length foreign ≡ most_clusters
  pub heaps : (to : ℕ) → Stands 1 foreign_key_of_item foreign_precedes arena (heap_of foreign to)
  pub at_preferred : (to slot : ℕ) (item : Item) → HasSlot arena foreign to slot → value_at arena slot ≡ Some item → prefers to item.thread ≡ true

-- the entries of those that prefer a cluster
abbrev pub wanting : ℕ → List Queued → List Queued
wanting to entries = filter (λ (e : Queued). prefers to e.facts) entries

-- no entry of the list has this arrival
abbrev pub IsNewArrival : List Queued → ℕ → Type 0
IsNewArrival entries arrival = (e : Queued) → Contains entries e → e.arrival ≢ arrival

-- for each cluster the slots of its heap are those entries of the list that prefer it, each of them in one slot
pub record OffersEntries (arena : Arena Item) (foreign : Roots) (entries : List Queued) : Type 0 where
  pub stands : StandsIn arena foreign
  pub there : (to slot : ℕ) (item : Item) → HasSlot arena foreign to slot → value_at arena slot ≡ Some item → Contains (wanting to entries) (entry_of item)
  pub back : (to : ℕ) → to < most_clusters → (entry : Queued) → Contains (wanting to entries) entry → (slot : ℕ) × (item : Item) × (HasSlot arena foreign to slot × (value_at arena slot ≡ Some item) × (entry_of item ≡ entry))
  pub once : (to from slot other : ℕ) (item rival : Item) → HasSlot arena foreign to slot → HasSlot arena foreign from other → value_at arena slot ≡ Some item → value_at arena other ≡ Some rival → rival.arrival ≡ item.arrival → other ≡ slot

-- the slot stands in the heap of its thread's preferred cluster once more, and every heap has each other slot as often as before; values, links of set 0, and links of each slot that isn't in that heap stay
pub record Pushes (old new : Arena Item) (foreign later : Roots) (slot : ℕ) : Type 0 where
  pub item : Item
  pub stored : value_at old slot ≡ Some item
  pub stands : StandsIn new later
  pub here : (other : ℕ) → times_in new later item.thread.prefer other ≡ (if slot == other then 1 else 0) + times_in old foreign item.thread.prefer other
  pub others : (to : ℕ) → to ≢ item.thread.prefer → (other : ℕ) → times_in new later to other ≡ times_in old foreign to other
  pub kept : LinksOnly 1 old new (times_in new later item.thread.prefer)

-- the slot stands in no heap and its links of set 1 lead nowhere, and every heap has each other slot as often as before; values, links of set 0, and links of each slot that wasn't in that heap stay
pub record Removes (old new : Arena Item) (foreign later : Roots) (slot : ℕ) : Type 0 where
  pub item : Item
  pub stored : value_at old slot ≡ Some item
  pub stands : StandsIn new later
  pub here : (other : ℕ) → times_in old foreign item.thread.prefer other ≡ (if slot == other then 1 else 0) + times_in new later item.thread.prefer other
  pub others : (to : ℕ) → to ≢ item.thread.prefer → (other : ℕ) → times_in new later to other ≡ times_in old foreign to other
  pub lacks : LacksSlot new later slot
  pub free : links_at new 1 slot ≡ unlinked
  pub kept : LinksOnly 1 old new (times_in old foreign item.thread.prefer)

-- the links of set 1 of each slot that stood in a heap lead nowhere; values, links of set 0, and links of all other slots stay
pub record Clears (old new : Arena Item) (foreign : Roots) : Type 0 where
  pub free : (to slot : ℕ) → HasSlot old foreign to slot → links_at new 1 slot ≡ unlinked
  pub elsewhere : (slot : ℕ) → LacksSlot old foreign slot → links_at new 1 slot ≡ links_at old 1 slot
  pub kept : LinksOnly 1 old new (times_anywhere old foreign)

-- the slot stands in the cluster's heap, and its entry is the one of those that prefer the cluster that no other precedes in an offer
pub record IsBest (arena : Arena Item) (foreign : Roots) (to : ℕ) (entries : List Queued) (slot : ℕ) : Type 0 where
  pub held : HasSlot arena foreign to slot
  pub item : Item
  pub stored : value_at arena slot ≡ Some item
  pub first : IsUnpreceded foreign_before (wanting to entries) (entry_of item)
  pub chosen : OrdersMembers foreign_before (wanting to entries) → unpreceded foreign_before (wanting to entries) ≡ Some (entry_of item)
