-- What a chain of heaps makes of the root that it is melded with.
use Rattle.std.proofs.Common.{◌≡◌, ℕ, ◌+◌, Bool, Option, Some, None, sym, ap, subst, ◌∙◌, inl, inr, arith}
use Rattle.std.specs.Prelude.{◌==◌}
use Rattle.link_arena.specs.Arena.{Arena, links_at}
use Rattle.pairing_heap.specs.Tree.{leaf, tally, slot_count, IsHeap}
use Rattle.pairing_heap.specs.Melding.{heaps, melded, paired, folded}
use Rattle.pairing_heap.specs.Heap.{key_of_value, keys_at}
use Rattle.pairing_heap.specs.Chain.{solo, IsRoot, CanMeld, Melds, Split, split_tally, Merges, Joins}
use Rattle.pairing_heap.proofs.Counts.{slot_count-root}
use Rattle.pairing_heap.proofs.Frame.{IsRoot-kept}
use Rattle.pairing_heap.proofs.Passes.{Kept-apart, Chained-left}
use Rattle.pairing_heap.proofs.Pairing.{LinksOnly-then}
use Rattle.pairing_heap.proofs.Standing.{HasRoot, has_root, heap_from_root, no_root}

module _ {V X : Type 0} (k : ℕ) (key_of : V → X) (precedes : X → X → Bool) where
  -- the root stays while the chain is merged
  pub root_merged : (old mid : Arena V) (root : ℕ) (children merged : Option ℕ) (was : Split k key_of precedes old root children) → Merges k key_of precedes old mid children merged (Chained-left k key_of precedes old root children was) (folded precedes (paired precedes (heaps was.left))) → IsRoot precedes (keys_at key_of mid) (links_at mid k) root was.key was.children × (links_at mid k root ≡ links_at old k root)
  root_merged old mid root children merged was merges =
      let here = slot_count-root was.key root was.children leaf in
      let stays = merges.kept.elsewhere root (omega (arith, was.once root, here)) in
      let kept = Kept-apart k key_of precedes old mid (λ slot. slot_count slot was.left) was.children merges.kept (λ slot. omega (arith, was.once slot)) in (
        IsRoot-kept (keys_at key_of old) (keys_at key_of mid) (links_at old k) (links_at mid k) precedes root was.key was.children (ap (key_of_value key_of) (merges.kept.values root)) (ap (λ l. l.child) stays) kept was.rooted,
        stays,
      )

  -- no chain: the root is the heap
  pub Joins-none : (old mid : Arena V) (root : ℕ) (children merged : Option ℕ) (was : Split k key_of precedes old root children) → Merges k key_of precedes old mid children merged (Chained-left k key_of precedes old root children was) (folded precedes (paired precedes (heaps was.left))) → merged ≡ None → (links_at old k root).next ≡ None → (links_at old k root).prev ≡ None → Joins k key_of precedes old mid root children root was
  Joins-none old mid root children merged was merges is next prev =
      let stays = root_merged old mid root children merged was merges in
      let empty = no_root precedes (keys_at key_of mid) (links_at mid k) merges.tree (subst (λ (r : Option ℕ). IsHeap precedes (keys_at key_of mid) (links_at mid k) r merges.tree) is merges.heap) in
      let none : (test : X × ℕ → Bool) → tally test was.left ≡ 0 = λ test. sym (merges.nodes test) ∙ ap (tally test) empty in
      record {
        tree = solo was.key root was.children;
        becomes = ap (melded precedes (solo was.key root was.children)) (sym empty ∙ merges.is);
        heap = heap_from_root precedes (keys_at key_of mid) (links_at mid k) root was.key was.children stays.0 (ap (λ l. l.next) stays.1 ∙ next) (ap (λ l. l.prev) stays.1 ∙ prev) (λ slot. omega (arith, was.once slot));
        nodes = λ test. omega (arith, none test);
        kept = record {
          values = merges.kept.values;
          other_set = merges.kept.other_set;
          spare = merges.kept.spare;
          elsewhere = λ slot zero. merges.kept.elsewhere slot (omega (arith, zero));
        };
      }

  -- the root of the merged chain
  pub merged_root : (old mid : Arena V) (root merged : ℕ) (children now : Option ℕ) (was : Split k key_of precedes old root children) (merges : Merges k key_of precedes old mid children now (Chained-left k key_of precedes old root children was) (folded precedes (paired precedes (heaps was.left)))) → now ≡ Some merged → HasRoot precedes (keys_at key_of mid) (links_at mid k) merged merges.tree
  merged_root old mid root merged children now was merges is =
      has_root precedes (keys_at key_of mid) (links_at mid k) merged merges.tree (subst (λ (r : Option ℕ). IsHeap precedes (keys_at key_of mid) (links_at mid k) r merges.tree) is merges.heap)

  -- the root and the merged chain can be melded
  abbrev pub CanMeld-join : (old mid : Arena V) (root merged : ℕ) (children now : Option ℕ) (was : Split k key_of precedes old root children) (merges : Merges k key_of precedes old mid children now (Chained-left k key_of precedes old root children was) (folded precedes (paired precedes (heaps was.left)))) → now ≡ Some merged → CanMeld k key_of precedes mid root merged
  CanMeld-join old mid root merged children now was merges is =
      let other = merged_root old mid root merged children now was merges is in
      record {
        set = was.set;
        a_key = was.key;
        b_key = other.key;
        a_children = was.children;
        b_children = other.children;
        a_root = (root_merged old mid root children now was merges).0;
        b_root = other.rooted;
        once = λ slot. omega (arith, was.once slot, merges.nodes (λ pair. pair.1 == slot), ap (slot_count slot) other.is);
      }

  -- the root and the merged chain were melded
  pub Joins-melded : (old mid new : Arena V) (root merged result : ℕ) (children now : Option ℕ) (was : Split k key_of precedes old root children) (merges : Merges k key_of precedes old mid children now (Chained-left k key_of precedes old root children was) (folded precedes (paired precedes (heaps was.left)))) (is : now ≡ Some merged) → Melds k key_of precedes mid new root merged result (CanMeld-join old mid root merged children now was merges is) → (links_at old k root).next ≡ None → (links_at old k root).prev ≡ None → Joins k key_of precedes old new root children result was
  Joins-melded old mid new root merged result children now was merges is melds root_next root_prev =
      let other = merged_root old mid root merged children now was merges is in
      let stays = (root_merged old mid root children now was merges).1 in
      let next : (links_at mid k result).next ≡ None = elim melds.which [
        | inl same ↦ ap (λ s. (links_at mid k s).next) same ∙ ap (λ l. l.next) stays ∙ root_next
        | inr same ↦ ap (λ s. (links_at mid k s).next) same ∙ other.next
      ] in
      let prev : (links_at mid k result).prev ≡ None = elim melds.which [
        | inl same ↦ ap (λ s. (links_at mid k s).prev) same ∙ ap (λ l. l.prev) stays ∙ root_prev
        | inr same ↦ ap (λ s. (links_at mid k s).prev) same ∙ other.prev
      ] in
      let total : (test : X × ℕ → Bool) → tally test (solo melds.key result melds.children) ≡ split_tally k key_of precedes old root children was test =
      λ test. omega (arith, melds.nodes test, merges.nodes test, ap (tally test) other.is) in
      record {
        tree = solo melds.key result melds.children;
        becomes = melds.becomes ∙ ap (melded precedes (solo was.key root was.children)) (sym other.is ∙ merges.is);
        heap = heap_from_root precedes (keys_at key_of new) (links_at new k) result melds.key melds.children melds.rooted (melds.next ∙ next) (melds.prev ∙ prev) (λ slot. omega (arith, was.once slot, total (λ pair. pair.1 == slot)));
        nodes = total;
        kept = LinksOnly-then k old mid new (λ slot. slot_count slot was.left) (λ slot. slot_count slot (solo was.key root was.children) + slot_count slot (solo other.key merged other.children)) (λ slot. split_tally k key_of precedes old root children was (λ pair. pair.1 == slot)) merges.kept melds.kept
            (λ slot none. omega (arith, none))
            (λ slot none. omega (arith, none, total (λ pair. pair.1 == slot), melds.nodes (λ pair. pair.1 == slot)));
      }
