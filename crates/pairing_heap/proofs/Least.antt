-- The first slot of a heap is its least.
use Rattle.std.proofs.Common.{◌≡◌, ℕ, ◌<◌, Bool, true, false, [], Option, Some, None, refl, sym, ap, ◌∙◌, arith, inl, inr, IfSome, IsNone, ◌↔◌}
use Rattle.std.specs.Prelude.{◌==◌}
use Rattle.std.proofs.lemmas.Bool.{cases_eq}
use Rattle.link_arena.specs.declared.arena.Links.{Links}
use Rattle.link_arena.specs.Arena.{Arena, links_at}
use Rattle.pairing_heap.specs.Order.{IsStrictOrder}
use Rattle.pairing_heap.specs.Tree.{Tree, leaf, node, pairs, slot_count, Joined, Ordered}
use Rattle.pairing_heap.specs.Heap.{keys_at, tree_at, pairs_at, Stands, Holds}
use Rattle.pairing_heap.specs.Chain.{solo}
use Rattle.pairing_heap.specs.Laws.{IsFirst}
use Rattle.pairing_heap.proofs.Counts.{one_other, slot_count-root}
use Rattle.pairing_heap.proofs.Size.{none_or_some}
use Rattle.pairing_heap.proofs.Standing.{no_root, count_by-stands}
use Rattle.pairing_heap.proofs.Taking.{root_of}

-- where a key does not precede a second, nor the second a third, the first does not precede the third
pub not_before : {X : Type 0} (precedes : X → X → Bool) → IsStrictOrder precedes → (a b c : X) → precedes a b ≡ false → precedes b c ≡ false → precedes a c ≡ false
not_before {X} precedes order a b c ab bc = first (precedes a c) refl
  where
    second : (t : Bool) → precedes b a ≡ t → precedes a c ≡ true → ⊥
    second true is before = let loop = order.transitive b a c is before in cc
    second false is before = let same = order.total a b ab is in let e = ap (λ x. precedes x c) same in cc

    first : (t : Bool) → precedes a c ≡ t → precedes a c ≡ false
    first false is = is
    first true is = absurd (second (precedes b a) refl is)

module _ {X : Type 0} (precedes : X → X → Bool) (order : IsStrictOrder precedes) (keys : ℕ → Option X) (links : ℕ → Links) (top : X) where
  -- in a tree below a key that does not precede the top, each slot has a key that does not precede the top
  behind_in : (tree : Tree X) (prev at : Option ℕ) (above : X) (slot : ℕ) → Joined keys links prev at tree → Ordered precedes above tree → precedes above top ≡ false → 0 < slot_count slot tree → (key : X) × ((keys slot ≡ Some key) × (precedes key top ≡ false))
  behind_in leaf prev at above slot joined ordered behind some = absurd (omega arith)
  behind_in (node key here children rest) prev at above slot joined ordered behind some =
      let next = not_before precedes order key above top ordered.0 behind in
      elim (cases_eq here slot) [
        | inl same ↦ (key, (ap keys (sym same) ∙ joined.1, next))
        | inr differs ↦ elim (none_or_some (slot_count slot children)) [
          | inl none ↦ behind_in rest (Some here) (links here).next above slot joined.4 ordered.2 behind (omega (arith, one_other here slot differs))
          | inr more ↦ behind_in children (Some here) (links here).child key slot joined.3 ordered.1 next more
        ]
      ]

module _ {V X : Type 0} (k : ℕ) (key_of : V → X) (precedes : X → X → Bool) where
  pub held_first : (a : Arena V) (root : Option ℕ) → Stands k key_of precedes a root → IfSome root (λ slot. Holds k key_of a root slot)
  held_first a None stands = tt
  held_first a (Some root) stands =
      let before = root_of k key_of precedes a root stands in
      omega (arith, count_by-stands k key_of precedes a (Some root) (λ pair. pair.1 == root), ap (slot_count root) before.is, slot_count-root before.key root before.children leaf)

  pub empty_first : (a : Arena V) (root : Option ℕ) → Stands k key_of precedes a root → IsNone root ↔ (pairs_at k key_of a root ≡ [])
  empty_first a None stands = (
    λ _. ap pairs (no_root precedes (keys_at key_of a) (links_at a k) (tree_at k key_of a None) stands.heap),
    λ _. refl,
  )
  empty_first a (Some root) stands =
      let before = root_of k key_of precedes a root stands in (
        λ never. cc,
        λ empty. let full = sym (ap pairs before.is) ∙ empty in cc,
      )

  least_key : IsStrictOrder precedes → (a : Arena V) (root : Option ℕ) → Stands k key_of precedes a root → (slot other : ℕ) (key rival : X) → root ≡ Some slot → keys_at key_of a slot ≡ Some key → Holds k key_of a root other → keys_at key_of a other ≡ Some rival → precedes rival key ≡ false
  least_key order a None stands slot other key rival is keyed held rival_keyed = let e = is in absurd (cc)
  least_key order a (Some root) stands slot other key rival is keyed held rival_keyed =
      let before = root_of k key_of precedes a root stands in
      let at : root ≡ slot = cc in
      let found_key = sym before.rooted.keyed ∙ ap (keys_at key_of a) at ∙ keyed in
      let same : before.key ≡ key = cc in
      let still = order.irreflexive before.key in
      let some : 0 < slot_count other (solo before.key root before.children) = omega (arith, held, count_by-stands k key_of precedes a (Some root) (λ pair. pair.1 == other), ap (slot_count other) before.is) in
      let found = behind_in precedes order (keys_at key_of a) (links_at a k) before.key (solo before.key root before.children) None (Some root) before.key other (refl, before.rooted.keyed, before.prev, before.rooted.joined, before.next) (still, before.rooted.ordered, tt) still some in
      let rivals = sym found.1.0 ∙ rival_keyed in
      let same_rival : found.0 ≡ rival = cc in
      ap (λ x. precedes x key) (sym same_rival) ∙ ap (λ x. precedes found.0 x) (sym same) ∙ found.1.1

  pub first_least : IsStrictOrder precedes → (a : Arena V) (root : Option ℕ) → Stands k key_of precedes a root → IsFirst k key_of precedes a root
  first_least order a root stands = record {
    none = empty_first a root stands;
    held = held_first a root stands;
    least = least_key order a root stands;
  }
