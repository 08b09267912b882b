-- The heaps stay where their slots do.
use Rattle.std.proofs.Common.{◌≡◌, ℕ, ◌<◌, Option, List, sym, ap, ◌∙◌, subst}
use Rattle.flat_policy.specs.Policy.Queue.{Queued}
use Rattle.link_arena.specs.Arena.{Arena}
use Rattle.pairing_heap.specs.Heap.{key_of_value, times_of}
use Rattle.pairing_heap.specs.Laws.{StaysIn as HeapStays, StaysWhereSlotsStay as HeapStaysWhere}
use Rattle.thread_queue.specs.Item.{foreign_key_of_item, foreign_precedes}
use Rattle.thread_queue.specs.declared.item.Item.{Item}
use Rattle.stealing.specs.Foreign.{HasSlot, OffersEntries, Roots, StandsIn, heap_of, times_in}
use Rattle.stealing.specs.Laws.{SameSlots, StaysWhereSlotsStay}

offers_stay : (old new : Arena Item) (foreign : Roots) → SameSlots old new foreign → StandsIn new foreign → ((to slot : ℕ) → times_in new foreign to slot ≡ times_in old foreign to slot) → (entries : List Queued) → OffersEntries old foreign entries → OffersEntries new foreign entries
offers_stay old new foreign same stands slots entries offers =
    let was = λ (to slot : ℕ) (held : HasSlot new foreign to slot). subst (λ (n : ℕ). 0 < n) (slots to slot) held in
    record {
      stands = stands;
      there = λ to slot item held stored. offers.there to slot item (was to slot held) (sym (same.values to slot (was to slot held)) ∙ stored);
      back = λ to lt e c.
          let b = offers.back to lt e c in
          (b.0, b.1, (subst (λ (n : ℕ). 0 < n) (sym (slots to b.0)) b.2.0, same.values to b.0 b.2.0 ∙ b.2.1, b.2.2));
      once = λ to from slot other item rival held there stored kept arrivals.
          offers.once to from slot other item rival (was to slot held) (was from other there)
          (sym (same.values to slot (was to slot held)) ∙ stored) (sym (same.values from other (was from other there)) ∙ kept) arrivals;
    }

pub stays : HeapStaysWhere 1 foreign_key_of_item foreign_precedes → StaysWhereSlotsStay
stays law old new foreign stands same =
    let still : (to : ℕ) → HeapStays 1 foreign_key_of_item foreign_precedes old new (heap_of foreign to)
    = λ to. law old new (heap_of foreign to) (stands.heaps to) record {
      keys = λ slot held. ap (λ (o : Option Item). key_of_value foreign_key_of_item o) (same.values to slot held);
      links = same.links to;
    } in
    let slots : (to slot : ℕ) → times_in new foreign to slot ≡ times_in old foreign to slot
    = λ to slot. ap (λ pairs. times_of pairs slot) (still to).same in
    let stood : StandsIn new foreign = record {
      eight = stands.eight;
      heaps = λ to. (still to).stands;
      at_preferred = λ to slot item held stored.
          let was : HasSlot old foreign to slot = subst (λ (n : ℕ). 0 < n) (slots to slot) held in
          stands.at_preferred to slot item was (sym (same.values to slot was) ∙ stored);
    } in
    record { stands = stood; slots = slots; offers = offers_stay old new foreign same stood slots }
