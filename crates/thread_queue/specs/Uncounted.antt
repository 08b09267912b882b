-- What a call that takes no counter needs, and what it does.
use Rattle.std.specs.Prelude.{Some, ℕ, ◌<◌, ◌≡◌}
use Rattle.link_arena.specs.Arena.{Arena, IsLive, value_at}
use Rattle.thread_queue.specs.Queue.{HasSlot, LacksSlot, Pushes, Queue, Removes, Settles, StaysInPlace}
use Rattle.thread_queue.specs.declared.item.Item.{Item}
use Rattle.thread_queue.specs.declared.uncounted.Change.{Change}
use Rattle.thread_queue.specs.declared.uncounted.Change.TheVariants as changes

-- the queue can be changed so at the slot
abbrev pub CanChange : Arena Item → Queue → ℕ → Change → Type 0
CanChange arena queue slot changes.Push = IsLive arena slot × LacksSlot arena queue slot × (queue.count < 4096)
CanChange arena queue slot changes.Remove = HasSlot arena queue slot
CanChange arena queue slot (changes.Settle usage seen pri) = HasSlot arena queue slot

-- where the item has the priority already, the queue and every link stay
abbrev pub SettlesInPlace : Arena Item → Arena Item → Queue → Queue → ℕ → ℕ → Type 0
SettlesInPlace old new queue later slot pri = (item : Item) → value_at old slot ≡ Some item → item.pri ≡ pri → StaysInPlace old new queue later

-- the queue is changed so at the slot
abbrev pub Changes : Arena Item → Arena Item → Queue → Queue → ℕ → Change → Type 0
Changes old new queue later slot changes.Push = Pushes old new queue later slot
Changes old new queue later slot changes.Remove = Removes old new queue later slot
Changes old new queue later slot (changes.Settle usage seen pri) = Settles old new queue later slot usage seen pri × SettlesInPlace old new queue later slot pri
