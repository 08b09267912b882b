-- What a removal does, by the fields that it changes.
use Rattle.std.proofs.Common.{◌≡◌, ℕ, ◌<◌, ◌==◌, Option, Some, List, length, sym, ap, ◌∙◌, subst, inl, inr, arith, eqb-true}
use Rattle.std.specs.Prelude.{None, slice_index_or, slice_set}
use Rattle.std.proofs.lemmas.Bool.{and_parts, cases_lt}
use Rattle.std.proofs.lemmas.List.{get_or_past}
use Rattle.sched_base.specs.Limits.{most_clusters}
use Rattle.sched_base.specs.declared.Facts.{Facts}
use Rattle.flat_policy.specs.Policy.Moves.{without}
use Rattle.flat_policy.specs.Policy.Offer.{is_unbound}
use Rattle.flat_policy.specs.Policy.Queue.{Queued}
use Rattle.link_arena.specs.Arena.{Arena, value_at}
use Rattle.pairing_heap.specs.Heap.{TakesPair}
use Rattle.pairing_heap.specs.Laws.{FirstIsLeast, HeldAreLive, StandsWhenEmpty, TakenIsLacked, TakenStaysApart, TakesOneSlot}
use Rattle.thread_queue.specs.Item.{foreign_key_of_item, foreign_precedes}
use Rattle.thread_queue.specs.declared.item.Item.{Item}
use Rattle.stealing.specs.Foreign.{HasSlot, IsHeld, OffersEntries, Removes, Roots, StandsIn, heap_of}
use Rattle.stealing.proofs.Clearing.{none_there}
use Rattle.stealing.proofs.Held.{root_of_index}
use Rattle.stealing.proofs.Pushed.{some_is}
use Rattle.stealing.proofs.Removed.{Goes, goes}
use Rattle.stealing.proofs.RemovedEntries.{offers_removed}

-- the slot that some heap has is in that of its thread's preferred cluster
pub preferred_held : (arena : Arena Item) (foreign : Roots) (slot : ℕ) (item : Item) (t : Facts) → StandsIn arena foreign → value_at arena slot ≡ Some item → t ≡ item.thread → IsHeld arena foreign slot → HasSlot arena foreign t.prefer slot
preferred_held arena foreign slot item t stands stored is held =
    let wants = stands.at_preferred held.0 slot item held.1 stored in
    let at = eqb-true item.thread.prefer held.0 (and_parts (is_unbound item.thread) (item.thread.prefer == held.0) wants).1 in
    subst (λ (n : ℕ). HasSlot arena foreign n slot) (sym at ∙ ap (λ (f : Facts). f.prefer) (sym is)) held.1

-- a heap that has a slot is one of the eight
pub within_held : FirstIsLeast 1 foreign_key_of_item foreign_precedes → StandsWhenEmpty 1 foreign_key_of_item foreign_precedes → (arena : Arena Item) (foreign : Roots) (to slot : ℕ) → HasSlot arena foreign to slot → to < length foreign
within_held least empty arena foreign to slot held = elim (cases_lt to (length foreign)) [
  | inl lt ↦ lt
  | inr past ↦ absurd (none_there least empty arena foreign to slot (get_or_past foreign to None past) held)
]

pub remove_goes : HeldAreLive 1 foreign_key_of_item foreign_precedes → TakesOneSlot 1 foreign_key_of_item foreign_precedes → TakenStaysApart 1 foreign_key_of_item foreign_precedes → TakenIsLacked 1 foreign_key_of_item foreign_precedes → (old new : Arena Item) (foreign heaps : Roots) (slot : ℕ) (item : Item) (t : Facts) (other root : Option ℕ) → heaps ≡ foreign → t ≡ item.thread → StandsIn old foreign → value_at old slot ≡ Some item → t.prefer < length foreign → HasSlot old foreign t.prefer slot → TakesPair 1 foreign_key_of_item foreign_precedes old new (slice_index_or heaps t.prefer other) root slot → Goes old new foreign (slice_set heaps t.prefer root) slot item
remove_goes live one stay lacked old new foreign heaps slot item t other root view is stands stored within held takes =
    let lt : t.prefer < most_clusters = omega (arith, within, stands.eight) in
    let at = root_of_index foreign heaps t.prefer other view stands.eight lt in
    let there = subst (λ (r : Option ℕ). TakesPair 1 foreign_key_of_item foreign_precedes old new r root slot) at takes in
    let here = subst (λ (f : Facts). TakesPair 1 foreign_key_of_item foreign_precedes old new (heap_of foreign f.prefer) root slot) is there in
    let gone = goes live one stay lacked old new foreign slot item root stands stored
    (subst (λ (f : Facts). f.prefer < length foreign) is within) (subst (λ (f : Facts). HasSlot old foreign f.prefer slot) is held) here in
    subst (λ (roots : Roots). Goes old new foreign (slice_set roots t.prefer root) slot item) (sym view)
    (subst (λ (f : Facts). Goes old new foreign (slice_set foreign f.prefer root) slot item) (sym is) gone)

pub removes : (old new : Arena Item) (foreign later : Roots) (slot : ℕ) (item : Item) → Goes old new foreign later slot item → Removes old new foreign later slot
removes old new foreign later slot item gone = record {
  item = item;
  stored = gone.stored;
  stands = gone.stands;
  here = gone.here;
  others = gone.others;
  lacks = gone.lacks;
  free = gone.free;
  kept = gone.kept;
}

pub removed_entries : (old new : Arena Item) (foreign later : Roots) (slot : ℕ) (item : Item) → Goes old new foreign later slot item → (entries : List Queued) (thing : Item) → value_at old slot ≡ Some thing → OffersEntries old foreign entries → OffersEntries new later (without thing.arrival entries)
removed_entries old new foreign later slot item gone entries thing stored offers =
    offers_removed old new foreign later slot thing
    (subst (λ (i : Item). Goes old new foreign later slot i) (some_is item thing (sym gone.stored ∙ stored)) gone) entries offers
