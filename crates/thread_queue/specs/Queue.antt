-- What contracts say of a queue: with its arena, it is a heap of keys and slots, and how many they are.
use Rattle.std.specs.Prelude.{List, Option, false, if◌then◌else◌, length, Some, ℕ, ◌+◌, ◌==◌, ◌≡◌}
use Rattle.flat_policy.specs.Policy.Precedence.{precedes}
use Rattle.link_arena.specs.Arena.{Arena, links_at, value_at}
use Rattle.pairing_heap.specs.Heap.{AddsPair, ClearsSlots, Holds, IsApart, Lacks, RekeysPair, Stands, TakesPair, pairs_at, slots_at, times_of}
use Rattle.thread_queue.specs.Item.{entry_of, key_of_item, key_precedes, settled_item}
use Rattle.thread_queue.specs.declared.item.Item.{Item}
use Rattle.thread_queue.specs.declared.item.ItemKey.{ItemKey}

-- a queue: the first slot of its heap, and how many slots it counts
pub record Queue : Type 0 where
  pub root : Option ℕ
  pub count : ℕ

-- the queue's keys and slots
abbrev pub members : Arena Item → Queue → List (ItemKey × ℕ)
members arena queue = pairs_at 0 key_of_item arena queue.root

-- the queue's slots in the order of a walk
abbrev pub walk_of : Arena Item → Queue → List ℕ
walk_of arena queue = slots_at 0 key_of_item arena queue.root

-- how often a slot stands in the queue
abbrev pub times_in : Arena Item → Queue → ℕ → ℕ
times_in arena queue slot = times_of (members arena queue) slot

-- the queue's heap stands in the arena, and its count is how many slots it has
pub record StandsIn (arena : Arena Item) (queue : Queue) : Type 0 where
  pub heap : Stands 0 key_of_item key_precedes arena queue.root
  pub counted : queue.count ≡ length (members arena queue)

-- the slot is one of the queue's
abbrev pub HasSlot : Arena Item → Queue → ℕ → Type 0
HasSlot arena queue slot = Holds 0 key_of_item arena queue.root slot

-- the slot is none of the queue's
abbrev pub LacksSlot : Arena Item → Queue → ℕ → Type 0
LacksSlot arena queue slot = Lacks 0 key_of_item arena queue.root slot

-- the slot is the queue's, and no entry of the queue precedes its entry
pub record IsFirst (arena : Arena Item) (queue : Queue) (slot : ℕ) : Type 0 where
  pub held : HasSlot arena queue slot
  pub item : Item
  pub stored : value_at arena slot ≡ Some item
  pub unpreceded : (other : ℕ) (rival : Item) → HasSlot arena queue other → value_at arena other ≡ Some rival → precedes (entry_of rival) (entry_of item) ≡ false

-- each queue that has none of these slots stands as it stood
abbrev pub OtherQueuesStay : Arena Item → Arena Item → (ℕ → ℕ) → Type 0
OtherQueuesStay old new times =
    (other : Queue) → StandsIn old other → IsApart 0 key_of_item old other.root times
    → StandsIn new other × (members new other ≡ members old other)

-- the queue has one slot more, and counts it; the rest stays
pub record Pushes (old new : Arena Item) (queue later : Queue) (slot : ℕ) : Type 0 where
  pub stands : StandsIn new later
  pub adds : AddsPair 0 key_of_item key_precedes old new queue.root later.root slot
  pub slots : (other : ℕ) → times_in new later other ≡ (if slot == other then 1 else 0) + times_in old queue other
  pub count : later.count ≡ queue.count + 1
  pub queues : OtherQueuesStay old new (times_in new later)

-- the queue has one slot less, and counts it no more; the rest stays
pub record Removes (old new : Arena Item) (queue later : Queue) (slot : ℕ) : Type 0 where
  pub stands : StandsIn new later
  pub takes : TakesPair 0 key_of_item key_precedes old new queue.root later.root slot
  pub slots : (other : ℕ) → times_in old queue other ≡ (if slot == other then 1 else 0) + times_in new later other
  pub count : later.count + 1 ≡ queue.count
  pub queues : OtherQueuesStay old new (times_in old queue)

-- the links of set 0 of each of the queue's slots lead nowhere; the rest stays
pub record Clears (old new : Arena Item) (queue : Queue) : Type 0 where
  pub clears : ClearsSlots 0 key_of_item key_precedes old new queue.root
  pub queues : OtherQueuesStay old new (times_in old queue)

-- the queue and every link stay
pub record StaysInPlace (old new : Arena Item) (queue later : Queue) : Type 0 where
  pub same : later ≡ queue
  pub links : (set slot : ℕ) → links_at new set slot ≡ links_at old set slot

-- the slot's thread is settled and its item has the priority, and it stays in the queue; the rest stays
pub record Settles (old new : Arena Item) (queue later : Queue) (slot usage seen pri : ℕ) : Type 0 where
  pub item : Item
  pub was : value_at old slot ≡ Some item
  pub stands : StandsIn new later
  pub rekeys : RekeysPair 0 key_of_item key_precedes old new queue.root later.root slot (settled_item usage seen pri item)
  pub slots : (other : ℕ) → times_in new later other ≡ times_in old queue other
  pub count : later.count ≡ queue.count
  pub queues : OtherQueuesStay old new (times_in old queue)
