-- How the heaps of foreign threads are filled, slot by slot. No public clause cites this module.
use Rattle.std.specs.Prelude.{Contains, List, None, Option, Some, true, ℕ, ◌<◌, ◌≡◌, ◌≢◌}
use Rattle.sched_base.specs.Limits.{most_clusters}
use Rattle.flat_policy.specs.Policy.Offer.{is_unbound}
use Rattle.flat_policy.specs.Policy.Queue.{Queued}
use Rattle.link_arena.specs.Arena.{Arena, links_at, value_at}
use Rattle.thread_queue.specs.Item.{entry_of}
use Rattle.thread_queue.specs.declared.item.Item.{Item}
use Rattle.stealing.specs.Foreign.{OffersEntries}
use Rattle.cluster_queue.specs.Heaps.{IsLoose}
use Rattle.cluster_queue.specs.declared.heaps.Heaps.{Heaps}

-- the slot to go on from, which is past all slots where there is none
abbrev pub end_of : Option ℕ → ℕ
end_of None = 4294967296
end_of (Some from) = from

-- values, links of set 0 and spare slots stay
pub record OnlyForeignChange (old new : Arena Item) : Type 0 where
  pub values : (slot : ℕ) → value_at new slot ≡ value_at old slot
  pub other_set : (set slot : ℕ) → set ≢ 1 → links_at new set slot ≡ links_at old set slot
  pub spare : new.spare ≡ old.spare

-- a slot below a number holds the item of an entry
pub record LiesBelow (arena : Arena Item) (upto : ℕ) (e : Queued) : Type 0 where
  pub slot : ℕ
  pub item : Item
  pub below : slot < upto
  pub stored : value_at arena slot ≡ Some item
  pub entry : entry_of item ≡ e

-- the heaps of foreign threads stand for the unbound threads in the slots below a number, and for no others; no two slots hold items of one arrival, slots are numbers of 32 bits, and preferred clusters are in range
pub record FilledBelow (arena : Arena Item) (heaps : Heaps) (upto : ℕ) : Type 0 where
  pub done : List Queued
  pub offers : OffersEntries arena heaps.foreign done
  pub there : (e : Queued) → Contains done e → LiesBelow arena upto e
  pub back : (slot : ℕ) (item : Item) → slot < upto → value_at arena slot ≡ Some item → is_unbound item.thread ≡ true → Contains done (entry_of item)
  pub loose : IsLoose arena heaps
  pub once : (slot other : ℕ) (item rival : Item) → value_at arena slot ≡ Some item → value_at arena other ≡ Some rival → rival.arrival ≡ item.arrival → other ≡ slot
  pub small : (slot : ℕ) (item : Item) → value_at arena slot ≡ Some item → slot < 4294967296
  pub prefer : (slot : ℕ) (item : Item) → value_at arena slot ≡ Some item → item.thread.prefer < most_clusters
