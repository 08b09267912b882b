-- A slot gets a settled item, and its place with it.
use Rattle.std.proofs.Common.{◌≡◌, ℕ, Some, arith}
use Rattle.link_arena.specs.Arena.{Arena, IsLive, value_at}
use Rattle.pairing_heap.specs.Heap.{RekeysPair}
use Rattle.pairing_heap.specs.Laws.{RekeysNoPair, RekeysNoSlot}
use Rattle.thread_queue.specs.Item.{key_of_item, key_precedes, settled_item}
use Rattle.thread_queue.specs.Queue.{Queue, Settles, StandsIn}
use Rattle.thread_queue.specs.declared.item.Item.{Item}
use Rattle.thread_queue.proofs.Members.{queues_stay}

pub settles : RekeysNoSlot 0 key_of_item key_precedes → RekeysNoPair 0 key_of_item key_precedes → (old new : Arena Item) (queue later : Queue) (slot usage seen pri : ℕ) (item : Item) → value_at old slot ≡ Some item → StandsIn old queue → IsLive old slot → RekeysPair 0 key_of_item key_precedes old new queue.root later.root slot (settled_item usage seen pri item) → later.count ≡ queue.count → Settles old new queue later slot usage seen pri
settles slots pairs old new queue later slot usage seen pri item was stands live rekeys count =
    record {
      item = item;
      was = was;
      stands = record { heap = rekeys.stands; counted = omega (arith, count, stands.counted, pairs old new queue.root later.root slot (settled_item usage seen pri item) live rekeys) };
      rekeys = rekeys;
      slots = slots old new queue.root later.root slot (settled_item usage seen pri item) live rekeys;
      count = count;
      queues = queues_stay old new _ rekeys.others;
    }
