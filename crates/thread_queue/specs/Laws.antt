-- What stays of a queue where the arena changes, and what its first entry is among all its entries.
use Rattle.std.specs.Prelude.{Contains, List, Some, count_by, ℕ, ◌==◌, ◌≡◌, ◌≢◌, ◌≤◌}
use Rattle.flat_policy.specs.Laws.Choice.{OrdersMembers}
use Rattle.flat_policy.specs.Policy.Offer.{foreign_before}
use Rattle.flat_policy.specs.Policy.Precedence.{precedes}
use Rattle.flat_policy.specs.Policy.Queue.{Queued}
use Rattle.flat_policy.specs.Policy.Unpreceded.{IsUnpreceded, unpreceded}
use Rattle.link_arena.specs.Arena.{Arena, Inserts, IsLive, Removes as Frees, Revalues, SameMap, value_at}
use Rattle.pairing_heap.specs.Heap.{LinksOnly, SameSlots, first_slot}
use Rattle.pairing_heap.specs.Laws.{AreApart}
use Rattle.thread_queue.specs.Item.{entry_of, foreign_key_of_item, foreign_precedes, key_of_item, key_precedes}
use Rattle.thread_queue.specs.Queue.{Clears, HasSlot, IsFirst, LacksSlot, Pushes, Queue, Removes, Settles, StandsIn, members, times_in, walk_of}
use Rattle.thread_queue.specs.declared.item.Item.{Item}

-- each slot of a queue holds an item
abbrev pub SlotsAreLive : Type 0
SlotsAreLive = (arena : Arena Item) (queue : Queue) → StandsIn arena queue → (slot : ℕ) → HasSlot arena queue slot → IsLive arena slot

-- the queue stands in both arenas, with the same members
pub record StaysIn (old new : Arena Item) (queue : Queue) : Type 0 where
  pub stands : StandsIn new queue
  pub same : members new queue ≡ members old queue

-- a queue stays where its slots keep their keys and their links
abbrev pub StaysWhereSlotsStay : Type 0
StaysWhereSlotsStay = (old new : Arena Item) (queue : Queue) → StandsIn old queue → SameSlots 0 key_of_item old new queue.root → StaysIn old new queue

-- the queue stands in both arenas, with the same members, and has not the slot
pub record StaysWithout (old new : Arena Item) (queue : Queue) (slot : ℕ) : Type 0 where
  pub stays : StaysIn old new queue
  pub lacks : LacksSlot new queue slot

-- a queue stays where an item comes into the arena, and has not its slot
abbrev pub StaysWhereInserted : Type 0
StaysWhereInserted = (old new : Arena Item) (slot : ℕ) (item : Item) → Inserts old new slot item → (queue : Queue) → StandsIn old queue → StaysWithout old new queue slot

-- a queue that has not the slot stays where its item leaves the arena
abbrev pub StaysWhereRemoved : Type 0
StaysWhereRemoved = (old new : Arena Item) (slot : ℕ) → Frees old new slot → (queue : Queue) → StandsIn old queue → LacksSlot old queue slot → StaysIn old new queue

-- no slot stands twice in a queue
abbrev pub SlotsStandOnce : Type 0
SlotsStandOnce = (arena : Arena Item) (queue : Queue) → StandsIn arena queue → (slot : ℕ) → times_in arena queue slot ≤ 1

-- a walk begins with the first slot of the queue
abbrev pub WalkBeginsWithFirst : Type 0
WalkBeginsWithFirst = (arena : Arena Item) (queue : Queue) → StandsIn arena queue → first_slot (walk_of arena queue) ≡ queue.root

-- a walk comes to each slot as often as it stands in the queue
abbrev pub WalkCountsSlots : Type 0
WalkCountsSlots = (arena : Arena Item) (queue : Queue) (slot : ℕ) → count_by (λ other. other == slot) (walk_of arena queue) ≡ times_in arena queue slot

-- a queue stays where the arena gets room
abbrev pub StaysWhereReserved : Type 0
StaysWhereReserved = (old new : Arena Item) → SameMap old new → (queue : Queue) → StandsIn old queue → StaysIn old new queue

-- a queue stays where only links of the other set change, as by the calls on heaps of that set
abbrev pub StaysWhereOtherSetChanges : Type 0
StaysWhereOtherSetChanges = (old new : Arena Item) (set : ℕ) (times : ℕ → ℕ) → 0 ≢ set → LinksOnly set old new times → (queue : Queue) → StandsIn old queue → StaysIn old new queue

-- a queue that has not the slot stays where the slot gets another item
abbrev pub StaysWhereRevalued : Type 0
StaysWhereRevalued = (old new : Arena Item) (slot : ℕ) (item : Item) → Revalues old new slot item → (queue : Queue) → StandsIn old queue → LacksSlot old queue slot → StaysIn old new queue

-- a queue stays where a slot gets another item of the same priority and number
abbrev pub StaysWhereKeyStays : Type 0
StaysWhereKeyStays =
    (old new : Arena Item) (slot : ℕ) (item later : Item) → value_at old slot ≡ Some item → Revalues old new slot later → key_of_item later ≡ key_of_item item
    → (queue : Queue) → StandsIn old queue → StaysIn old new queue

-- a queue has the slot that was pushed
abbrev pub PushedIsHeld : Type 0
PushedIsHeld = (old new : Arena Item) (queue later : Queue) (slot : ℕ) → IsLive old slot → Pushes old new queue later slot → HasSlot new later slot

-- a queue has not the slot that was removed
abbrev pub RemovedIsLacked : Type 0
RemovedIsLacked = (old new : Arena Item) (queue later : Queue) (slot : ℕ) → StandsIn old queue → Removes old new queue later slot → LacksSlot new later slot

-- the queues share no slot
abbrev pub QueuesApart : Arena Item → Queue → Queue → Type 0
QueuesApart arena queue other = AreApart 0 key_of_item key_precedes arena queue.root other.root

-- the other queue stands with the same members, and shares no slot with what the first became
pub record StaysApart (old new : Arena Item) (later other : Queue) : Type 0 where
  pub stays : StaysIn old new other
  pub apart : QueuesApart new later other
  pub back : QueuesApart new other later

-- queues stay apart where a slot that the other lacks is pushed
abbrev pub PushedStaysApart : Type 0
PushedStaysApart =
    (old new : Arena Item) (queue later : Queue) (slot : ℕ) → IsLive old slot → StandsIn old queue → Pushes old new queue later slot
    → (other : Queue) → StandsIn old other → QueuesApart old queue other → LacksSlot old other slot → StaysApart old new later other

-- queues stay apart where a slot of the one is removed
abbrev pub RemovedStaysApart : Type 0
RemovedStaysApart =
    (old new : Arena Item) (queue later : Queue) (slot : ℕ) → StandsIn old queue → Removes old new queue later slot
    → (other : Queue) → StandsIn old other → QueuesApart old queue other → StaysApart old new later other

-- queues stay apart where a slot of the one is settled
abbrev pub SettledStaysApart : Type 0
SettledStaysApart =
    (old new : Arena Item) (queue later : Queue) (slot usage seen pri : ℕ) → IsLive old slot → StandsIn old queue → Settles old new queue later slot usage seen pri
    → (other : Queue) → StandsIn old other → QueuesApart old queue other → StaysApart old new later other

-- a queue that shares no slot with another stays where that is cleared
abbrev pub StaysWhereCleared : Type 0
StaysWhereCleared =
    (old new : Arena Item) (queue : Queue) → StandsIn old queue → Clears old new queue
    → (other : Queue) → StandsIn old other → QueuesApart old queue other → StaysIn old new other

-- the entries are those of the queue's slots
pub record AreEntries (arena : Arena Item) (queue : Queue) (entries : List Queued) : Type 0 where
  pub there : (slot : ℕ) (item : Item) → HasSlot arena queue slot → value_at arena slot ≡ Some item → Contains entries (entry_of item)
  pub back : (entry : Queued) → Contains entries entry → (slot : ℕ) × (item : Item) × (HasSlot arena queue slot × (value_at arena slot ≡ Some item) × (entry_of item ≡ entry))

-- no entry of the list precedes this one, which is the list's choice
pub record IsChosen (entries : List Queued) (entry : Queued) : Type 0 where
  pub first : IsUnpreceded precedes entries entry
  pub chosen : OrdersMembers precedes entries → unpreceded precedes entries ≡ Some entry

-- where these are the entries of a queue, its first slot holds the one that no other precedes
abbrev pub FirstIsChosen : Type 0
FirstIsChosen =
    (arena : Arena Item) (queue : Queue) (entries : List Queued) (slot : ℕ) → AreEntries arena queue entries → (first : IsFirst arena queue slot) → IsChosen entries (entry_of first.item)

-- the keys of link set 1 go as an offer of the cluster's foreign entries does
abbrev pub ForeignKeysOrderEntries : Type 0
ForeignKeysOrderEntries =
    (x y : Item) → foreign_precedes (foreign_key_of_item x) (foreign_key_of_item y) ≡ foreign_before (entry_of x) (entry_of y)

-- the keys of link set 0 go as the entries of one unit do
abbrev pub ItemKeysOrderEntries : Type 0
ItemKeysOrderEntries = (x y : Item) → key_precedes (key_of_item x) (key_of_item y) ≡ precedes (entry_of x) (entry_of y)
