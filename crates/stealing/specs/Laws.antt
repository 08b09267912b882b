-- What stays of the heaps of foreign threads where the arena or the list of entries changes.
use Rattle.std.specs.Prelude.{Contains, List, Some, [], true, ℕ, ◌<◌, ◌≡◌}
use Rattle.sched_base.specs.Limits.{most_clusters}
use Rattle.flat_policy.specs.Policy.Offer.{is_unbound, prefers}
use Rattle.flat_policy.specs.Policy.Queue.{Queued}
use Rattle.link_arena.specs.Arena.{Arena, Inserts, Removes as Frees, Revalues, SameMap, links_at, value_at}
use Rattle.pairing_heap.specs.Heap.{LinksOnly}
use Rattle.thread_queue.specs.Item.{entry_of}
use Rattle.thread_queue.specs.Queue.{Queue, Settles}
use Rattle.thread_queue.specs.declared.item.Item.{Item}
use Rattle.stealing.specs.Foreign.{HasSlot, IsNewArrival, LacksSlot, OffersEntries, Pushes, Roots, StandsIn, times_in}

-- the heaps stand in the new arena too, with the same slots, and stand for the same entries
pub record StaysIn (old new : Arena Item) (foreign : Roots) : Type 0 where
  pub stands : StandsIn new foreign
  pub slots : (to slot : ℕ) → times_in new foreign to slot ≡ times_in old foreign to slot
  pub offers : (entries : List Queued) → OffersEntries old foreign entries → OffersEntries new foreign entries

-- each slot of a heap has the same item and the same links of set 1 in both arenas
pub record SameSlots (old new : Arena Item) (foreign : Roots) : Type 0 where
  pub values : (to slot : ℕ) → HasSlot old foreign to slot → value_at new slot ≡ value_at old slot
  pub links : (to slot : ℕ) → HasSlot old foreign to slot → links_at new 1 slot ≡ links_at old 1 slot

-- the heaps stay where their slots keep their items and their links of set 1
abbrev pub StaysWhereSlotsStay : Type 0
StaysWhereSlotsStay = (old new : Arena Item) (foreign : Roots) → StandsIn old foreign → SameSlots old new foreign → StaysIn old new foreign

-- the heaps stay in the new arena, and none of them has the slot
pub record StaysWithout (old new : Arena Item) (foreign : Roots) (slot : ℕ) : Type 0 where
  pub stays : StaysIn old new foreign
  pub lacks : LacksSlot new foreign slot

-- the heaps stay where an item comes into the arena, and have not its slot
abbrev pub StaysWhereInserted : Type 0
StaysWhereInserted = (old new : Arena Item) (slot : ℕ) (item : Item) → Inserts old new slot item → (foreign : Roots) → StandsIn old foreign → StaysWithout old new foreign slot

-- the heaps stay where the item of a slot that none of them has leaves the arena
abbrev pub StaysWhereRemoved : Type 0
StaysWhereRemoved = (old new : Arena Item) (slot : ℕ) → Frees old new slot → (foreign : Roots) → StandsIn old foreign → LacksSlot old foreign slot → StaysIn old new foreign

-- the heaps stay where a slot that none of them has gets another item
abbrev pub StaysWhereRevalued : Type 0
StaysWhereRevalued = (old new : Arena Item) (slot : ℕ) (item : Item) → Revalues old new slot item → (foreign : Roots) → StandsIn old foreign → LacksSlot old foreign slot → StaysWithout old new foreign slot

-- the heaps stay where a slot that none of them has is settled in its queue
abbrev pub StaysWhereSettled : Type 0
StaysWhereSettled =
    (old new : Arena Item) (queue later : Queue) (slot usage seen pri : ℕ) → Settles old new queue later slot usage seen pri
    → (foreign : Roots) → StandsIn old foreign → LacksSlot old foreign slot → StaysWithout old new foreign slot

-- the heaps stay where the arena gets room
abbrev pub StaysWhereReserved : Type 0
StaysWhereReserved = (old new : Arena Item) → SameMap old new → (foreign : Roots) → StandsIn old foreign → StaysIn old new foreign

-- the heaps stay where only links of set 0 change, as by the calls on queues
abbrev pub StaysWhereQueuesChange : Type 0
StaysWhereQueuesChange = (old new : Arena Item) (times : ℕ → ℕ) → LinksOnly 0 old new times → (foreign : Roots) → StandsIn old foreign → StaysIn old new foreign

-- both lists have the same unbound entries
pub record SameUnbound (entries later : List Queued) : Type 0 where
  pub there : (e : Queued) → is_unbound e.facts ≡ true → Contains entries e → Contains later e
  pub back : (e : Queued) → is_unbound e.facts ≡ true → Contains later e → Contains entries e

-- the heaps stand for every list with the same unbound entries, in whatever order, as where a bound entry comes or goes
abbrev pub OffersByUnbound : Type 0
OffersByUnbound = (arena : Arena Item) (foreign : Roots) (entries later : List Queued) → SameUnbound entries later → OffersEntries arena foreign entries → OffersEntries arena foreign later

-- the heap of its thread's preferred cluster has the slot that was pushed
abbrev pub PushedIsHeld : Type 0
PushedIsHeld = (old new : Arena Item) (foreign later : Roots) (slot : ℕ) → (pushes : Pushes old new foreign later slot) → HasSlot new later pushes.item.thread.prefer slot

-- where the heaps stand for no entry, none of them has a slot
abbrev pub LacksWhereNone : Type 0
LacksWhereNone = (arena : Arena Item) (foreign : Roots) → OffersEntries arena foreign [] → (slot : ℕ) → LacksSlot arena foreign slot

-- no heap has the slot of an item whose arrival is that of no entry
abbrev pub LacksNewArrival : Type 0
LacksNewArrival =
    (arena : Arena Item) (foreign : Roots) (entries : List Queued) (slot : ℕ) (item : Item) → OffersEntries arena foreign entries
    → value_at arena slot ≡ Some item → IsNewArrival entries item.arrival → LacksSlot arena foreign slot

-- a slot whose item is an entry that prefers a cluster stands in that cluster's heap, where no other slot's item has its arrival
abbrev pub HasListedSlot : Type 0
HasListedSlot =
    (arena : Arena Item) (foreign : Roots) (entries : List Queued) (to slot : ℕ) (item : Item) → OffersEntries arena foreign entries
    → to < most_clusters → prefers to item.thread ≡ true → value_at arena slot ≡ Some item → Contains entries (entry_of item)
    → ((other : ℕ) (rival : Item) → value_at arena other ≡ Some rival → rival.arrival ≡ item.arrival → other ≡ slot)
    → HasSlot arena foreign to slot
