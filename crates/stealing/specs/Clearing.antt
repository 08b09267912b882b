-- How the work of clearing the heaps is said. No public clause cites this module.
use Rattle.std.specs.Prelude.{None, ℕ, ◌<◌, ◌≡◌, ◌≢◌, ◌≤◌}
use Rattle.link_arena.specs.Arena.{Arena, links_at, unlinked, value_at}
use Rattle.pairing_heap.specs.Heap.{LinksOnly}
use Rattle.thread_queue.specs.declared.item.Item.{Item}
use Rattle.stealing.specs.Foreign.{HasSlot, LacksSlot, Roots, StandsIn, heap_of, times_in}

-- one cluster's heap is empty, and the links of its slots lead nowhere; the other heaps stay
pub record ClearsOne (old new : Arena Item) (foreign later : Roots) (at : ℕ) : Type 0 where
  pub stands : StandsIn new later
  pub none : heap_of later at ≡ None
  pub roots : (to : ℕ) → to ≢ at → heap_of later to ≡ heap_of foreign to
  pub others : (to : ℕ) → to ≢ at → (slot : ℕ) → times_in new later to slot ≡ times_in old foreign to slot
  pub free : (slot : ℕ) → HasSlot old foreign at slot → links_at new 1 slot ≡ unlinked
  pub kept : LinksOnly 1 old new (times_in old foreign at)

-- the heaps of the clusters below a number are empty, and the links of their slots lead nowhere; the other heaps stay
pub record ClearsBelow (old new : Arena Item) (foreign later : Roots) (count : ℕ) : Type 0 where
  pub stands : StandsIn new later
  pub none : (to : ℕ) → to < count → heap_of later to ≡ None
  pub rest : (to : ℕ) → count ≤ to → (slot : ℕ) → times_in new later to slot ≡ times_in old foreign to slot
  pub free : (to slot : ℕ) → to < count → HasSlot old foreign to slot → links_at new 1 slot ≡ unlinked
  pub elsewhere : (slot : ℕ) → LacksSlot old foreign slot → links_at new 1 slot ≡ links_at old 1 slot
  pub values : (slot : ℕ) → value_at new slot ≡ value_at old slot
  pub other_set : (set slot : ℕ) → set ≢ 1 → links_at new set slot ≡ links_at old set slot
  pub spare : new.spare ≡ old.spare
