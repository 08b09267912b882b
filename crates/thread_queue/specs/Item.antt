-- What an item stands for, and in which order items go.
use Rattle.std.specs.Prelude.{Bool, ℕ, int_lt, nat_lt, ◌&&◌, ◌==◌, ◌||◌}
use Rattle.flat_policy.specs.Policy.Queue.{Queued}
use Rattle.sched_base.specs.Bucket.{index}
use Rattle.sched_base.specs.Facts.{settled}
use Rattle.thread_queue.specs.declared.item.Item.{Item}
use Rattle.thread_queue.specs.declared.item.ForeignKey.{ForeignKey}
use Rattle.thread_queue.specs.declared.item.ItemKey.{ItemKey}

-- the entry of the cluster's queue that an item is
abbrev pub entry_of : Item → Queued
entry_of item = record { facts = item.thread; pri = item.pri; arrival = item.arrival; order = item.number }

-- the key of an item
abbrev pub key_of_item : Item → ItemKey
key_of_item item = record { pri = item.pri; number = item.number }

-- the greater priority goes first, and at one priority the lower number
abbrev pub key_precedes : ItemKey → ItemKey → Bool
key_precedes a b = nat_lt b.pri a.pri || ((a.pri == b.pri) && int_lt a.number b.number)

-- the key of an item among those of threads that prefer another cluster
abbrev pub foreign_key_of_item : Item → ForeignKey
foreign_key_of_item item = record { bucket = index item.thread.bucket; pri = item.pri; number = item.number }

-- the lower bucket index goes first, and in one bucket the greater priority, and then the lower number
abbrev pub foreign_precedes : ForeignKey → ForeignKey → Bool
foreign_precedes a b =
    nat_lt a.bucket b.bucket
    || ((a.bucket == b.bucket) && (nat_lt b.pri a.pri || ((a.pri == b.pri) && int_lt a.number b.number)))

-- the item with its thread settled, and with another priority
abbrev pub settled_item : ℕ → ℕ → ℕ → Item → Item
settled_item usage seen pri item = record item { thread = settled usage seen item.thread; pri = pri }
