-- What a queue has once a slot came in or went out.
use Rattle.std.proofs.Common.{◌≡◌, ℕ, ◌+◌, ◌-◌, Option, Some, None, IsSome, length, refl, sym, ap, ◌∙◌, arith}
use Rattle.link_arena.specs.Arena.{Arena, IsLive, value_at}
use Rattle.pairing_heap.specs.Heap.{AddsPair, OthersStay, TakesPair}
use Rattle.pairing_heap.specs.Laws.{AddsOnePair, AddsOneSlot, TakesOnePair, TakesOneSlot}
use Rattle.thread_queue.specs.Item.{key_of_item, key_precedes}
use Rattle.thread_queue.specs.Queue.{OtherQueuesStay, Pushes, Queue, Removes, StandsIn}
use Rattle.thread_queue.specs.declared.item.Item.{Item}

item_from_some : (o : Option Item) → IsSome o → (item : Item) × (o ≡ Some item)
item_from_some None live = absurd (cc)
item_from_some (Some item) live = (item, refl)

-- the item at a live slot
pub item_at : (arena : Arena Item) (slot : ℕ) → IsLive arena slot → (item : Item) × (value_at arena slot ≡ Some item)
item_at arena slot live = item_from_some (value_at arena slot) live

-- where the heaps of set 0 stay, so do the queues
pub queues_stay : (old new : Arena Item) (times : ℕ → ℕ) → OthersStay 0 key_of_item key_precedes old new times → OtherQueuesStay old new times
queues_stay old new times others other stands apart =
    let still = others other.root stands.heap apart in
    (record { heap = still.0; counted = stands.counted ∙ ap length (sym still.1) }, still.1)

pub pushes : AddsOneSlot 0 key_of_item key_precedes → AddsOnePair 0 key_of_item key_precedes → (old new : Arena Item) (queue later : Queue) (slot : ℕ) → StandsIn old queue → IsLive old slot → AddsPair 0 key_of_item key_precedes old new queue.root later.root slot → later.count ≡ queue.count + 1 → Pushes old new queue later slot
pushes slots pairs old new queue later slot stands live adds count =
    record {
      stands = record { heap = adds.stands; counted = omega (arith, count, stands.counted, pairs old new queue.root later.root slot live adds) };
      adds = adds;
      slots = slots old new queue.root later.root slot live adds;
      count = count;
      queues = queues_stay old new _ adds.others;
    }

pub removes : TakesOneSlot 0 key_of_item key_precedes → TakesOnePair 0 key_of_item key_precedes → (old new : Arena Item) (queue later : Queue) (slot : ℕ) → StandsIn old queue → TakesPair 0 key_of_item key_precedes old new queue.root later.root slot → later.count ≡ queue.count - 1 → Removes old new queue later slot
removes slots pairs old new queue later slot stands takes count =
    let shorter = pairs old new queue.root later.root slot stands.heap takes in
    record {
      stands = record { heap = takes.stands; counted = omega (arith, count, stands.counted, shorter) };
      takes = takes;
      slots = slots old new queue.root later.root slot stands.heap takes;
      count = omega (arith, count, stands.counted, shorter);
      queues = queues_stay old new _ takes.others;
    }
