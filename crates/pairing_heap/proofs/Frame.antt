-- Trees stay where the keys and links of their slots stay.
use Rattle.std.proofs.Common.{◌≡◌, ◌≢◌, ℕ, ◌<◌, ◌≤◌, Bool, Option, Some, sym, ap, subst, ◌∙◌, arith}
use Rattle.link_arena.specs.declared.arena.Links.{Links}
use Rattle.pairing_heap.specs.Tree.{Tree, leaf, node, slot_count, Joined, Ordered}
use Rattle.pairing_heap.specs.Chain.{IsRoot, IsChain}
use Rattle.pairing_heap.proofs.Counts.{slot_count-root, apart}

module _ {X : Type 0} (keys later_keys : ℕ → Option X) (links later : ℕ → Links) where
  -- the keys and links of the tree's slots stay
  pub record Kept (tree : Tree X) : Type 0 where
    pub keys_stay : (slot : ℕ) → 0 < slot_count slot tree → later_keys slot ≡ keys slot
    pub links_stay : (slot : ℕ) → 0 < slot_count slot tree → later slot ≡ links slot

  pub Kept-children : (key : X) (slot : ℕ) (children rest : Tree X) → Kept (node key slot children rest) → Kept children
  Kept-children key slot children rest kept =
      record {
        keys_stay = λ other here. kept.keys_stay other (omega arith);
        links_stay = λ other here. kept.links_stay other (omega arith);
      }

  pub Kept-rest : (key : X) (slot : ℕ) (children rest : Tree X) → Kept (node key slot children rest) → Kept rest
  Kept-rest key slot children rest kept =
      record {
        keys_stay = λ other here. kept.keys_stay other (omega arith);
        links_stay = λ other here. kept.links_stay other (omega arith);
      }

  pub Joined-kept : (prev at : Option ℕ) (tree : Tree X) → Kept tree → Joined keys links prev at tree → Joined later_keys later prev at tree
  Joined-kept prev at leaf kept joined = joined
  Joined-kept prev at (node key slot children rest) kept joined =
      let here : 0 < slot_count slot (node key slot children rest) = omega (arith, slot_count-root key slot children rest) in
      let same = kept.links_stay slot here in (
        joined.0,
        kept.keys_stay slot here ∙ joined.1,
        ap (λ l. l.prev) same ∙ joined.2,
        subst (λ (to : Option ℕ). Joined later_keys later (Some slot) to children) (ap (λ l. l.child) (sym same)) (Joined-kept (Some slot) (links slot).child children (Kept-children key slot children rest kept) joined.3),
        subst (λ (to : Option ℕ). Joined later_keys later (Some slot) to rest) (ap (λ l. l.next) (sym same)) (Joined-kept (Some slot) (links slot).next rest (Kept-rest key slot children rest kept) joined.4),
      )

  -- a root stays where its key, its first child and all below it stay
  pub IsRoot-kept : (precedes : X → X → Bool) (slot : ℕ) (key : X) (children : Tree X) → later_keys slot ≡ keys slot → (later slot).child ≡ (links slot).child → Kept children → IsRoot precedes keys links slot key children → IsRoot precedes later_keys later slot key children
  IsRoot-kept precedes slot key children same_key same_child kept root =
      record {
        keyed = same_key ∙ root.keyed;
        joined = subst (λ (to : Option ℕ). Joined later_keys later (Some slot) to children) (sym same_child) (Joined-kept (Some slot) (links slot).child children kept root.joined);
        ordered = root.ordered;
      }

  pub IsChain-kept : (precedes : X → X → Bool) (at : Option ℕ) (tree : Tree X) → Kept tree → IsChain precedes keys links at tree → IsChain precedes later_keys later at tree
  IsChain-kept precedes at leaf kept chain = chain
  IsChain-kept precedes at (node key slot children rest) kept chain =
      let here : 0 < slot_count slot (node key slot children rest) = omega (arith, slot_count-root key slot children rest) in
      let same = kept.links_stay slot here in (
        chain.0,
        IsRoot-kept precedes slot key children (kept.keys_stay slot here) (ap (λ l. l.child) same) (Kept-children key slot children rest kept) chain.1,
        subst (λ (to : Option ℕ). IsChain precedes later_keys later to rest) (ap (λ l. l.next) (sym same)) (IsChain-kept precedes (links slot).next rest (Kept-rest key slot children rest kept) chain.2),
      )

  -- only what comes before the first node changes
  pub Joined-rehung : (prev before at : Option ℕ) (tree : Tree X) → ((slot : ℕ) → slot_count slot tree ≤ 1) → ((slot : ℕ) → 0 < slot_count slot tree → later_keys slot ≡ keys slot) → ((slot : ℕ) → at ≡ Some slot → later slot ≡ record { child = (links slot).child; next = (links slot).next; prev = before }) → ((slot : ℕ) → 0 < slot_count slot tree → at ≢ Some slot → later slot ≡ links slot) → Joined keys links prev at tree → Joined later_keys later before at tree
  Joined-rehung prev before at leaf once same_keys head others joined = joined
  Joined-rehung prev before at (node key slot children rest) once same_keys head others joined =
      let root = slot_count-root key slot children rest in
      let here : 0 < slot_count slot (node key slot children rest) = omega (arith, root) in
      let same = head slot joined.0 in
      let only_here : (other : ℕ) → other ≢ slot → at ≢ Some other = λ other differs is. let e = sym is ∙ joined.0 in differs (cc) in
      let in_children : (other : ℕ) → 0 < slot_count other children → other ≢ slot =
      λ other some. apart children slot other (omega (arith, root, once slot)) some in
      let in_rest : (other : ℕ) → 0 < slot_count other rest → other ≢ slot =
      λ other some. apart rest slot other (omega (arith, root, once slot)) some in
      let kept_children : Kept children = record {
        keys_stay = λ other some. same_keys other (omega arith);
        links_stay = λ other some. others other (omega arith) (only_here other (in_children other some));
      } in
      let kept_rest : Kept rest = record {
        keys_stay = λ other some. same_keys other (omega arith);
        links_stay = λ other some. others other (omega arith) (only_here other (in_rest other some));
      } in (
        joined.0,
        same_keys slot here ∙ joined.1,
        ap (λ l. l.prev) same,
        subst (λ (to : Option ℕ). Joined later_keys later (Some slot) to children) (ap (λ l. l.child) (sym same)) (Joined-kept (Some slot) (links slot).child children kept_children joined.3),
        subst (λ (to : Option ℕ). Joined later_keys later (Some slot) to rest) (ap (λ l. l.next) (sym same)) (Joined-kept (Some slot) (links slot).next rest kept_rest joined.4),
      )

module _ {X : Type 0} (precedes : X → X → Bool) (keys : ℕ → Option X) (links : ℕ → Links) where
  -- the children of a root are a chain of roots
  pub IsChain-joined : (prev at : Option ℕ) (top : X) (tree : Tree X) → Joined keys links prev at tree → Ordered precedes top tree → IsChain precedes keys links at tree
  IsChain-joined prev at top leaf joined ordered = joined
  IsChain-joined prev at top (node key slot children rest) joined ordered = (
    joined.0,
    record { keyed = joined.1; joined = joined.3; ordered = ordered.1 },
    IsChain-joined (Some slot) (links slot).next top rest joined.4 ordered.2,
  )
