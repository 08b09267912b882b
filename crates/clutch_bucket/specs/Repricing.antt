-- What pricing the slots of one queue anew does to it.
use Rattle.std.specs.Prelude.{Bool, None, Option, Some, count_by, false, not, slice_set, suc, zero, ℕ, ◌+◌, ◌<◌, ◌==◌, ◌≡◌, ◌≤◌}
use Rattle.flat_policy.specs.Policy.Usage.{decay, priority}
use Rattle.sched_base.specs.Limits.{most_base}
use Rattle.link_arena.specs.Arena.{Arena, links_at, value_at}
use Rattle.thread_queue.specs.Item.{settled_item}
use Rattle.thread_queue.specs.Laws.{QueuesApart, StaysApart, StaysIn}
use Rattle.thread_queue.specs.Queue.{HasSlot, LacksSlot, Queue, Settles, StandsIn, times_in, walk_of}
use Rattle.thread_queue.specs.declared.item.Item.{Item}
use Rattle.clutch_bucket.specs.Lane.{Lane, LacksLaneSlot, OtherQueuesStay, UnitsStand, groups, queue_at}

-- the usage of an item's thread, decayed to now
abbrev pub usage_at : ℕ → Item → ℕ
usage_at now item = decay item.thread.usage item.thread.seen now

-- the priority of an item by its usage now, among so many entries of its unit
abbrev pub pri_at : ℕ → ℕ → Item → ℕ
pri_at count now item = priority item.thread.base item.thread.bucket (usage_at now item) count

-- an item decayed to now and priced again, among so many entries of its unit
abbrev pub repriced_item : ℕ → ℕ → Item → Item
repriced_item count now item = settled_item (usage_at now item) now (pri_at count now item) item

-- whether the priority of an item, if there is one, changes with that
abbrev pub changes_pri : ℕ → ℕ → Option Item → Bool
changes_pri count now None = false
changes_pri count now (Some item) = not (pri_at count now item == item.pri)

-- how many of the queue's slots change their priority
abbrev pub changed_in : Arena Item → Queue → ℕ → ℕ
changed_in arena queue now = count_by (λ slot. changes_pri queue.count now (value_at arena slot)) (walk_of arena queue)

-- the queue has the same slots, whose items are priced anew within the range; other values, the links of set 1, spare slots and queues with no slot of it stay
pub record Reprices (old new : Arena Item) (queue later : Queue) (now : ℕ) : Type 0 where
  pub stands : StandsIn new later
  pub count : later.count ≡ queue.count
  pub slots : (slot : ℕ) → times_in new later slot ≡ times_in old queue slot
  pub values : (slot : ℕ) (item : Item) → HasSlot old queue slot → value_at old slot ≡ Some item → value_at new slot ≡ Some (repriced_item queue.count now item)
  pub small : (slot : ℕ) (item : Item) → HasSlot old queue slot → value_at old slot ≡ Some item → pri_at queue.count now item ≤ most_base
  pub others : (slot : ℕ) → LacksSlot old queue slot → value_at new slot ≡ value_at old slot
  pub second : (slot : ℕ) → links_at new 1 slot ≡ links_at old 1 slot
  pub spare : new.spare ≡ old.spare
  pub queues : (other : Queue) → StandsIn old other → QueuesApart old queue other → StaysApart old new later other

-- one slot of the queue is settled by its usage now, among so many entries
pub record RepricesSlot (old new : Arena Item) (queue later : Queue) (slot count now : ℕ) : Type 0 where
  pub item : Item
  pub was : value_at old slot ≡ Some item
  pub small : pri_at count now item ≤ most_base
  pub settles : Settles old new queue later slot (usage_at now item) now (pri_at count now item)

-- the unit of a group is priced anew, and nothing else of the lane changes
pub record RepricesUnit (old new : Arena Item) (before later : Lane) (group now : ℕ) : Type 0 where
  pub queue : Queue
  pub reprices : Reprices old new (queue_at before group) queue now
  pub is : later ≡ record before { queues = slice_set before.queues group queue }

-- how many slots of the lane change their priority, in the queues of the groups below a number
abbrev pub changed_upto : Arena Item → Lane → ℕ → ℕ → ℕ
changed_upto arena lane now zero = 0
changed_upto arena lane now (suc group) = changed_upto arena lane now group + changed_in arena (queue_at lane group) now

-- a queue has the same slots, whose items are priced anew
pub record IsPriced (old new : Arena Item) (queue later : Queue) (now : ℕ) : Type 0 where
  pub count : later.count ≡ queue.count
  pub slots : (slot : ℕ) → times_in new later slot ≡ times_in old queue slot
  pub values : (slot : ℕ) (item : Item) → HasSlot old queue slot → value_at old slot ≡ Some item → value_at new slot ≡ Some (repriced_item queue.count now item)

-- a queue stays, with the items of its slots
pub record IsLeft (old new : Arena Item) (queue later : Queue) : Type 0 where
  pub same : later ≡ queue
  pub stays : StaysIn old new queue
  pub values : (slot : ℕ) → HasSlot old queue slot → value_at new slot ≡ value_at old slot

-- the units of the groups below a number are priced anew; keys, the other units and all else of the lane and the arena stay
pub record PricedUpTo (old new : Arena Item) (before later : Lane) (upto now : ℕ) : Type 0 where
  pub units : UnitsStand new later
  pub same : later ≡ record before { queues = later.queues }
  pub alike : groups later ≡ groups before
  pub done : (group : ℕ) → group < groups before → group < upto → IsPriced old new (queue_at before group) (queue_at later group) now
  pub left : (group : ℕ) → group < groups before → upto ≤ group → IsLeft old new (queue_at before group) (queue_at later group)
  pub others : (slot : ℕ) → LacksLaneSlot old before slot → value_at new slot ≡ value_at old slot
  pub second : (slot : ℕ) → links_at new 1 slot ≡ links_at old 1 slot
  pub spare : new.spare ≡ old.spare
  pub queues : OtherQueuesStay old new before later
