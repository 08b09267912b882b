-- A queue stays where its heap does.
use Rattle.std.proofs.Common.{ℕ, sym, ap, ◌∙◌, length}
use Rattle.link_arena.specs.Arena.{Arena}
use Rattle.pairing_heap.specs.Laws.{StaysApart as HeapStaysApart, StaysIn as HeapStays, StaysWithout as HeapStaysWithout}
use Rattle.thread_queue.specs.Item.{key_of_item, key_precedes}
use Rattle.thread_queue.specs.Laws.{StaysApart, StaysIn, StaysWithout}
use Rattle.thread_queue.specs.Queue.{Queue, StandsIn}
use Rattle.thread_queue.specs.declared.item.Item.{Item}

pub stays : (old new : Arena Item) (queue : Queue) → StandsIn old queue → HeapStays 0 key_of_item key_precedes old new queue.root → StaysIn old new queue
stays old new queue stands still = record {
  stands = record { heap = still.stands; counted = stands.counted ∙ ap length (sym still.same) };
  same = still.same;
}

pub stays_without : (old new : Arena Item) (queue : Queue) (slot : ℕ) → StandsIn old queue → HeapStaysWithout 0 key_of_item key_precedes old new queue.root slot → StaysWithout old new queue slot
stays_without old new queue slot stands still =
    record { stays = stays old new queue stands still.stays; lacks = still.lacks }

pub stays_apart : (old new : Arena Item) (later other : Queue) → StandsIn old other → HeapStaysApart 0 key_of_item key_precedes old new later.root other.root → StaysApart old new later other
stays_apart old new later other there still =
    record { stays = stays old new other there still.stays; apart = still.apart; back = still.back }
