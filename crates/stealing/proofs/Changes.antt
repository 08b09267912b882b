-- One heap changes, and the others stay.
use Rattle.std.proofs.Common.{◌≡◌, ◌≢◌, ℕ, ◌<◌, true, Option, Some, length, sym, ap, ◌∙◌, subst, inl, inr}
use Rattle.std.specs.Prelude.{None, slice_set}
use Rattle.std.proofs.lemmas.Bool.{cases_eq}
use Rattle.std.proofs.lemmas.List.{get_or-set_other, get_or-set_same, length-set}
use Rattle.sched_base.specs.Limits.{most_clusters}
use Rattle.flat_policy.specs.Policy.Offer.{prefers}
use Rattle.link_arena.specs.Arena.{Arena, value_at}
use Rattle.pairing_heap.specs.Heap.{Stands, pairs_at, times_of}
use Rattle.pairing_heap.specs.Laws.{StaysIn as HeapStays}
use Rattle.thread_queue.specs.Item.{foreign_key_of_item, foreign_precedes}
use Rattle.thread_queue.specs.declared.item.Item.{Item}
use Rattle.stealing.specs.Foreign.{HasSlot, Roots, StandsIn, heap_of, times_in}

-- the heap of one cluster stands, and each other has the slots that it had
pub record Changes (old new : Arena Item) (foreign later : Roots) (at : ℕ) : Type 0 where
  pub eight : length later ≡ most_clusters
  pub heap : Stands 1 foreign_key_of_item foreign_precedes new (heap_of later at)
  pub stand : (to : ℕ) → to ≢ at → Stands 1 foreign_key_of_item foreign_precedes new (heap_of later to)
  pub slots : (to : ℕ) → to ≢ at → (slot : ℕ) → times_in new later to slot ≡ times_in old foreign to slot
  pub values : (slot : ℕ) → value_at new slot ≡ value_at old slot

pub root_here : (foreign : Roots) (at : ℕ) (root : Option ℕ) → at < length foreign → heap_of (slice_set foreign at root) at ≡ root
root_here foreign at root within = get_or-set_same foreign at root None within

pub root_there : (foreign : Roots) (at to : ℕ) (root : Option ℕ) → to ≢ at → heap_of (slice_set foreign at root) to ≡ heap_of foreign to
root_there foreign at to root unlike = get_or-set_other foreign at to root None unlike

pub changes : (old new : Arena Item) (foreign : Roots) (at : ℕ) (root : Option ℕ) → length foreign ≡ most_clusters → at < length foreign → Stands 1 foreign_key_of_item foreign_precedes new root → ((to : ℕ) → to ≢ at → HeapStays 1 foreign_key_of_item foreign_precedes old new (heap_of foreign to)) → ((slot : ℕ) → value_at new slot ≡ value_at old slot) → Changes old new foreign (slice_set foreign at root) at
changes old new foreign at root eight within heap still values = record {
  eight = length-set foreign at root ∙ eight;
  heap = subst (λ (r : Option ℕ). Stands 1 foreign_key_of_item foreign_precedes new r) (sym (root_here foreign at root within)) heap;
  stand = λ to unlike. subst (λ (r : Option ℕ). Stands 1 foreign_key_of_item foreign_precedes new r) (sym (root_there foreign at to root unlike)) (still to unlike).stands;
  slots = λ to unlike slot.
      ap (λ (r : Option ℕ). times_of (pairs_at 1 foreign_key_of_item new r) slot) (root_there foreign at to root unlike)
      ∙ ap (λ pairs. times_of pairs slot) (still to unlike).same;
  values = values;
}

-- the heaps stand after the change, where each slot of the changed one prefers its cluster
pub stands_after : (old new : Arena Item) (foreign later : Roots) (at : ℕ) → StandsIn old foreign → Changes old new foreign later at → ((slot : ℕ) (item : Item) → HasSlot new later at slot → value_at old slot ≡ Some item → prefers at item.thread ≡ true) → StandsIn new later
stands_after old new foreign later at stands change preferred = record {
  eight = change.eight;
  heaps = λ to. elim (cases_eq to at) [
    | inl is ↦ subst (λ (n : ℕ). Stands 1 foreign_key_of_item foreign_precedes new (heap_of later n)) (sym is) change.heap
    | inr unlike ↦ change.stand to unlike
  ];
  at_preferred = λ to slot item held stored. elim (cases_eq to at) [
    | inl is ↦ subst (λ (n : ℕ). prefers n item.thread ≡ true) (sym is)
        (preferred slot item (subst (λ (n : ℕ). HasSlot new later n slot) is held) (sym (change.values slot) ∙ stored))
    | inr unlike ↦ stands.at_preferred to slot item (subst (λ (n : ℕ). 0 < n) (change.slots to unlike slot) held) (sym (change.values slot) ∙ stored)
  ];
}
