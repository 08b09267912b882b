-- The heaps share no slot, since an item prefers one cluster only.
use Rattle.std.proofs.Common.{◌≡◌, ◌≢◌, ◌⊎◌, ℕ, zero, suc, ◌<◌, ◌==◌, true, Option, Some, None, IsSome, [], ◌∷◌, length, refl, sym, ap, ◌∙◌, inl, inr, arith, eqb-true}
use Rattle.std.specs.Prelude.{slice_index_or}
use Rattle.std.proofs.lemmas.Bool.{and_parts}
use Rattle.sched_base.specs.Limits.{most_clusters}
use Rattle.sched_base.specs.declared.Facts.{Facts}
use Rattle.flat_policy.specs.Policy.Offer.{is_unbound, prefers}
use Rattle.link_arena.specs.Arena.{Arena, IsLive, value_at}
use Rattle.pairing_heap.specs.Laws.{AreApart, HeldAreLive}
use Rattle.thread_queue.specs.Item.{foreign_key_of_item, foreign_precedes}
use Rattle.thread_queue.specs.declared.item.Item.{Item}
use Rattle.stealing.specs.Foreign.{HasSlot, Roots, StandsIn, heap_of, times_in}

item_from_some : (o : Option Item) → IsSome o → (item : Item) × (o ≡ Some item)
item_from_some None live = absurd (cc)
item_from_some (Some item) live = (item, refl)

-- the item at a live slot
pub item_at : (arena : Arena Item) (slot : ℕ) → IsLive arena slot → (item : Item) × (value_at arena slot ≡ Some item)
item_at arena slot live = item_from_some (value_at arena slot) live

pub zero_or_some : (n : ℕ) → (n ≡ 0) ⊎ (0 < n)
zero_or_some zero = inl refl
zero_or_some (suc n) = inr (omega arith)

-- the root at a place of the list, whatever is given for places past its end
pub root_at : (foreign : Roots) (to : ℕ) (other : Option ℕ) → to < length foreign → slice_index_or foreign to other ≡ heap_of foreign to
root_at [] to other lt = absurd (omega (arith, lt))
root_at (r ∷ foreign) zero other lt = refl
root_at (r ∷ foreign) (suc to) other lt = root_at foreign to other (omega (arith, lt))

-- the root at a place of the fields' list
pub root_of_index : (foreign heaps : Roots) (to : ℕ) (other : Option ℕ) → heaps ≡ foreign → length foreign ≡ most_clusters → to < most_clusters → slice_index_or heaps to other ≡ heap_of foreign to
root_of_index foreign heaps to other is eight lt =
    let within : to < length foreign = omega (arith, eight, lt) in
    ap (λ (roots : Roots). slice_index_or roots to other) is ∙ root_at foreign to other within

-- the item at a slot of a heap
pub item_held : HeldAreLive 1 foreign_key_of_item foreign_precedes → (arena : Arena Item) (foreign : Roots) → StandsIn arena foreign → (to slot : ℕ) → HasSlot arena foreign to slot → (item : Item) × (value_at arena slot ≡ Some item)
item_held live arena foreign stands to slot held =
    item_at arena slot (live arena (heap_of foreign to) slot (stands.heaps to) held)

pub one_preferred : (a b : ℕ) (t : Facts) → prefers a t ≡ true → prefers b t ≡ true → a ≡ b
one_preferred a b t h k =
    sym (eqb-true t.prefer a (and_parts (is_unbound t) (t.prefer == a) h).1)
    ∙ eqb-true t.prefer b (and_parts (is_unbound t) (t.prefer == b) k).1

-- no two heaps have one slot
pub apart : HeldAreLive 1 foreign_key_of_item foreign_precedes → (arena : Arena Item) (foreign : Roots) → StandsIn arena foreign → (to other : ℕ) → to ≢ other → AreApart 1 foreign_key_of_item foreign_precedes arena (heap_of foreign to) (heap_of foreign other)
apart live arena foreign stands to other unlike = λ slot held. elim (zero_or_some (times_in arena foreign other slot)) [
  | inl none ↦ none
  | inr some ↦ (let item = item_held live arena foreign stands to slot held in
      absurd (unlike (one_preferred to other item.0.thread (stands.at_preferred to slot item.0 held item.1) (stands.at_preferred other slot item.0 some item.1))))
]
