-- The root of a cluster's heap is the best of those that prefer the cluster.
use Rattle.std.proofs.Common.{◌≡◌, ℕ, ◌<◌, false, Option, Some, None, IsNone, IfSome, List, [], ◌∷◌, Contains, ◌↔◌, refl, sym, ap, ◌∙◌, subst, arith}
use Rattle.sched_base.specs.Limits.{most_clusters}
use Rattle.flat_policy.specs.Policy.Offer.{foreign_before}
use Rattle.flat_policy.specs.Policy.Queue.{Queued}
use Rattle.flat_policy.specs.Policy.Unpreceded.{IsUnpreceded}
use Rattle.flat_policy.proofs.Choice.{chosen_is}
use Rattle.flat_policy.proofs.Members.{all_from_members, contains_here, contains_none}
use Rattle.link_arena.specs.Arena.{Arena}
use Rattle.pairing_heap.specs.Heap.{Holds, Stands, key_of_value, times_of}
use Rattle.pairing_heap.specs.Laws.{FirstIsLeast, HeldAreLive}
use Rattle.thread_queue.specs.Item.{entry_of, foreign_key_of_item, foreign_precedes}
use Rattle.thread_queue.specs.declared.item.Item.{Item}
use Rattle.stealing.specs.Foreign.{HasSlot, IsBest, OffersEntries, Roots, StandsIn, heap_of, wanting}
use Rattle.stealing.proofs.Held.{item_held}

-- the root of a heap is one of its slots
root_held : FirstIsLeast 1 foreign_key_of_item foreign_precedes → (arena : Arena Item) (slot : ℕ) (heap : Option ℕ) → Stands 1 foreign_key_of_item foreign_precedes arena heap → heap ≡ Some slot → Holds 1 foreign_key_of_item arena heap slot
root_held least arena slot heap stands is =
    let first = least arena (Some slot) (subst (λ (h : Option ℕ). Stands 1 foreign_key_of_item foreign_precedes arena h) is stands) in
    subst (λ (h : Option ℕ). Holds 1 foreign_key_of_item arena h slot) (sym is) first.held

-- where a heap has no root, it has no slot
pub none_held : FirstIsLeast 1 foreign_key_of_item foreign_precedes → (arena : Arena Item) (slot : ℕ) (heap : Option ℕ) → Stands 1 foreign_key_of_item foreign_precedes arena heap → heap ≡ None → Holds 1 foreign_key_of_item arena heap slot → ⊥
none_held least arena slot heap stands is held =
    let empty = (least arena heap stands).none.0 (subst (λ (h : Option ℕ). IsNone h) (sym is) refl) in
    let zero = ap (λ pairs. times_of pairs slot) empty in
    omega (arith, held, zero)

-- where no entry is wanted, there is none
no_entry : (entries : List Queued) → ((e : Queued) → Contains entries e → ⊥) → entries ≡ []
no_entry [] none = refl
no_entry (e ∷ es) none = absurd (none e (contains_here e es))

none_wanted : FirstIsLeast 1 foreign_key_of_item foreign_precedes → (arena : Arena Item) (foreign : Roots) (entries : List Queued) (to : ℕ) → to < most_clusters → OffersEntries arena foreign entries → heap_of foreign to ≡ None → wanting to entries ≡ []
none_wanted least arena foreign entries to lt offers is =
    no_entry (wanting to entries) (λ e c. let b = offers.back to lt e c in none_held least arena b.0 (heap_of foreign to) (offers.stands.heaps to) is b.2.0)

pub best_is : HeldAreLive 1 foreign_key_of_item foreign_precedes → FirstIsLeast 1 foreign_key_of_item foreign_precedes → (arena : Arena Item) (foreign : Roots) (entries : List Queued) (to slot : ℕ) → to < most_clusters → OffersEntries arena foreign entries → heap_of foreign to ≡ Some slot → IsBest arena foreign to entries slot
best_is live least arena foreign entries to slot lt offers is =
    let held = root_held least arena slot (heap_of foreign to) (offers.stands.heaps to) is in
    let item = item_held live arena foreign offers.stands to slot held in
    let top = entry_of item.0 in
    let keyed = λ (o : Option Item). key_of_value foreign_key_of_item o in
    let unpreceded : IsUnpreceded foreign_before (wanting to entries) top = record {
      member = offers.there to slot item.0 held item.1;
      first = all_from_members (λ (y : Queued). foreign_before y top ≡ false) (wanting to entries) (λ y member.
          let b = offers.back to lt y member in
          ap (λ (z : Queued). foreign_before z top) (sym b.2.2)
          ∙ (least arena (heap_of foreign to) (offers.stands.heaps to)).least slot b.0 (foreign_key_of_item item.0) (foreign_key_of_item b.1)
          is (ap keyed item.1) b.2.0 (ap keyed b.2.1));
    } in
    record {
      held = held;
      item = item.0;
      stored = item.1;
      first = unpreceded;
      chosen = λ order. chosen_is foreign_before (wanting to entries) order top unpreceded;
    }

pub best_where : HeldAreLive 1 foreign_key_of_item foreign_precedes → FirstIsLeast 1 foreign_key_of_item foreign_precedes → (arena : Arena Item) (foreign : Roots) (entries : List Queued) (to : ℕ) (result : Option ℕ) → to < most_clusters → result ≡ heap_of foreign to → OffersEntries arena foreign entries → IfSome result (λ slot. IsBest arena foreign to entries slot)
best_where live least arena foreign entries to None lt is offers = tt
best_where live least arena foreign entries to (Some slot) lt is offers = best_is live least arena foreign entries to slot lt offers (sym is)

pub held_where : FirstIsLeast 1 foreign_key_of_item foreign_precedes → (arena : Arena Item) (foreign : Roots) (to : ℕ) (result : Option ℕ) → result ≡ heap_of foreign to → StandsIn arena foreign → IfSome result (λ slot. HasSlot arena foreign to slot)
held_where least arena foreign to None is stands = tt
held_where least arena foreign to (Some slot) is stands = root_held least arena slot (heap_of foreign to) (stands.heaps to) (sym is)

pub none_where : HeldAreLive 1 foreign_key_of_item foreign_precedes → FirstIsLeast 1 foreign_key_of_item foreign_precedes → (arena : Arena Item) (foreign : Roots) (entries : List Queued) (to : ℕ) (result : Option ℕ) → to < most_clusters → result ≡ heap_of foreign to → OffersEntries arena foreign entries → IsNone result ↔ (wanting to entries ≡ [])
none_where live least arena foreign entries to None lt is offers = (λ _. none_wanted least arena foreign entries to lt offers (sym is), λ _. refl)
none_where live least arena foreign entries to (Some slot) lt is offers =
    let best = best_is live least arena foreign entries to slot lt offers (sym is) in
    (λ some. absurd (cc), λ empty. absurd (contains_none (entry_of best.item) (subst (λ (es : List Queued). Contains es (entry_of best.item)) empty best.first.member)))
