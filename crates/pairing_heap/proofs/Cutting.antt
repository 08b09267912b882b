-- What a tree is once a node is taken out of its middle.
use Rattle.std.proofs.Common.{◌≡◌, ◌≢◌, ◌⊎◌, ℕ, ◌+◌, ◌<◌, ◌≤◌, Bool, true, false, Option, Some, None, cond, refl, sym, ap, subst, ◌∙◌, inl, inr, arith}
use Rattle.std.proofs.lemmas.Bool.{cases_eq, eq-eqb, eqb-true}
use Rattle.std.specs.Prelude.{◌==◌}
use Rattle.link_arena.specs.declared.arena.Links.{Links}
use Rattle.pairing_heap.specs.Tree.{Tree, leaf, node, tally, slot_count, Joined, Ordered}
use Rattle.pairing_heap.specs.Melding.{first_of, children_of, without}
use Rattle.pairing_heap.specs.Chain.{IsRoot}
use Rattle.pairing_heap.proofs.Counts.{one_other, slot_count-root}
use Rattle.pairing_heap.proofs.Size.{none_or_some}
use Rattle.pairing_heap.proofs.Melding.{head_in}

pub different : (here slot : ℕ) → here ≢ slot → (here == slot) ≡ false
different here slot differs = by_case (here == slot) refl
  where
    by_case : (t : Bool) → (here == slot) ≡ t → t ≡ false
    by_case true is = absurd (differs (eqb-true here slot is))
    by_case false is = refl

module _ {X : Type 0} where
  -- the first node goes
  pub without-here : (key : X) (slot : ℕ) (children rest : Tree X) → without slot (node key slot children rest) ≡ rest
  without-here key slot children rest =
      ap (λ t. cond t rest (node key slot (without slot children) (without slot rest))) (eq-eqb slot slot refl)

  pub children-here : (key : X) (slot : ℕ) (children rest : Tree X) → children_of slot (node key slot children rest) ≡ children
  children-here key slot children rest =
      ap (λ t. cond t children (first_of (children_of slot children) (children_of slot rest))) (eq-eqb slot slot refl)

  -- another first node stays
  pub without-other : (key : X) (here slot : ℕ) (children rest : Tree X) → here ≢ slot → without slot (node key here children rest) ≡ node key here (without slot children) (without slot rest)
  without-other key here slot children rest differs =
      ap (λ t. cond t rest (node key here (without slot children) (without slot rest))) (different here slot differs)

  pub children-other : (key : X) (here slot : ℕ) (children rest : Tree X) → here ≢ slot → children_of slot (node key here children rest) ≡ first_of (children_of slot children) (children_of slot rest)
  children-other key here slot children rest differs =
      ap (λ t. cond t children (first_of (children_of slot children) (children_of slot rest))) (different here slot differs)

  not_first : (key : X) (here slot : ℕ) (children rest : Tree X) → slot_count slot (node key here children rest) ≡ 0 → here ≢ slot
  not_first key here slot children rest none same =
      omega (arith, slot_count-root key here children rest, none, ap (λ s. slot_count s (node key here children rest)) same)

  -- a tree that lacks the slot stays, and there are no children of the slot
  pub without-absent : (slot : ℕ) (tree : Tree X) → slot_count slot tree ≡ 0 → without slot tree ≡ tree
  without-absent slot leaf none = refl
  without-absent slot (node key here children rest) none =
      without-other key here slot children rest (not_first key here slot children rest none)
      ∙ ap (λ t. node key here t (without slot rest)) (without-absent slot children (omega (arith, none)))
      ∙ ap (λ t. node key here children t) (without-absent slot rest (omega (arith, none)))

  pub children-absent : (slot : ℕ) (tree : Tree X) → slot_count slot tree ≡ 0 → children_of slot tree ≡ leaf
  children-absent slot leaf none = refl
  children-absent slot (node key here children rest) none =
      children-other key here slot children rest (not_first key here slot children rest none)
      ∙ ap (λ t. first_of t (children_of slot rest)) (children-absent slot children (omega (arith, none)))
      ∙ children-absent slot rest (omega (arith, none))

  pub first_of-alone : (tree : Tree X) → first_of tree leaf ≡ tree
  first_of-alone leaf = refl
  first_of-alone (node key slot children rest) = refl

-- a place names a slot, or not
pub names_or_not : (at : Option ℕ) (slot : ℕ) → (at ≡ Some slot) ⊎ (at ≢ Some slot)
names_or_not None slot = inr (λ is. cc)
names_or_not (Some here) slot =
    elim (cases_eq here slot) [
      | inl same ↦ inl (ap (λ (s : ℕ). Some s) same)
      | inr differs ↦ inr (λ is. differs (cc))
    ]

module _ {X : Type 0} (precedes : X → X → Bool) (keys : ℕ → Option X) (links : ℕ → Links) where
  -- the tree that begins at this slot, opened
  pub record Opened (prev : Option ℕ) (slot : ℕ) (top : X) (tree : Tree X) : Type 0 where
    pub key : X
    pub children : Tree X
    pub rest : Tree X
    pub is : tree ≡ node key slot children rest
    pub rooted : IsRoot precedes keys links slot key children
    pub before : (links slot).prev ≡ prev
    pub beside : Joined keys links (Some slot) (links slot).next rest
    pub ordered : Ordered precedes top rest
    pub nodes : (test : X × ℕ → Bool) → tally test tree ≡ cond (test (key, slot)) 1 0 + (tally test children + tally test rest)

  open_here : (prev : Option ℕ) (slot : ℕ) (top key : X) (here : ℕ) (children rest : Tree X) → Some here ≡ Some slot → keys here ≡ Some key → (links here).prev ≡ prev → Joined keys links (Some here) (links here).child children → Joined keys links (Some here) (links here).next rest → Ordered precedes top (node key here children rest) → Opened prev slot top (node key here children rest)
  open_here prev slot top key here children rest is keyed before below beside ordered =
      let opened : Opened prev here top (node key here children rest) = record {
        key = key;
        children = children;
        rest = rest;
        is = refl;
        rooted = record { keyed = keyed; joined = below; ordered = ordered.1 };
        before = before;
        beside = beside;
        ordered = ordered.2;
        nodes = λ test. refl;
      } in
      let same : here ≡ slot = cc in
      subst (λ (s : ℕ). Opened prev s top (node key here children rest)) same opened

  pub open_at : (prev at : Option ℕ) (slot : ℕ) (top : X) (tree : Tree X) → at ≡ Some slot → Joined keys links prev at tree → Ordered precedes top tree → Opened prev slot top tree
  open_at prev at slot top leaf is joined ordered = let e = sym joined ∙ is in absurd (cc)
  open_at prev at slot top (node key here children rest) is joined ordered =
      open_here prev slot top key here children rest (sym joined.0 ∙ is) joined.1 joined.2 joined.3 joined.4 ordered

  -- the next of a slot of a tree is in the tree
  pub next_in : (prev at : Option ℕ) (slot next : ℕ) (tree : Tree X) → Joined keys links prev at tree → 0 < slot_count slot tree → (links slot).next ≡ Some next → 0 < slot_count next tree
  next_in prev at slot next leaf joined some is = absurd (omega arith)
  next_in prev at slot next (node key here children rest) joined some is =
      elim (cases_eq here slot) [
        | inl same ↦ omega (arith, head_in keys links (Some here) (links here).next rest next joined.4 (ap (λ s. (links s).next) same ∙ is))
        | inr differs ↦ elim (none_or_some (slot_count slot children)) [
          | inl none ↦ omega (arith, next_in (Some here) (links here).next slot next rest joined.4 (omega (arith, one_other here slot differs)) is)
          | inr more ↦ omega (arith, next_in (Some here) (links here).child slot next children joined.3 more is)
        ]
      ]

  pub first_prev : (slot : ℕ) (before to : Option ℕ) (tree : Tree X) → Joined keys links before to tree → to ≡ Some slot → (links slot).prev ≡ before
  first_prev slot before to leaf inside is = let e = sym inside ∙ is in absurd (cc)
  first_prev slot before to (node other_key other others more) inside is =
      let e = sym inside.0 ∙ is in
      let same : other ≡ slot = cc in
      ap (λ s. (links s).prev) (sym same) ∙ inside.2

  -- a slot of a tree that does not begin with it has another slot of the tree before it, which does not come after it
  pub pred_in : (prev at : Option ℕ) (slot : ℕ) (tree : Tree X) → ((other : ℕ) → slot_count other tree ≤ 1) → Joined keys links prev at tree → 0 < slot_count slot tree → at ≢ Some slot → (pred : ℕ) × ((links slot).prev ≡ Some pred) × (0 < slot_count pred tree) × ((links slot).next ≢ Some pred)
  pred_in prev at slot leaf once joined some elsewhere = absurd (omega arith)
  pred_in prev at slot (node key here children rest) once joined some elsewhere =
      let differs : here ≢ slot = λ same. elsewhere (joined.0 ∙ ap (λ (s : ℕ). Some s) same) in
      let root = slot_count-root key here children rest in
      elim (none_or_some (slot_count slot children)) [
        | inl none ↦
            let more : 0 < slot_count slot rest = omega (arith, one_other here slot differs) in
            elim (names_or_not (links here).next slot) [
              | inl is ↦ (here, first_prev slot (Some here) (links here).next rest joined.4 is, omega (arith, root), λ next. omega (arith, root, once here, next_in (Some here) (links here).next slot here rest joined.4 more next))
              | inr not ↦
                  let deep = pred_in (Some here) (links here).next slot rest (λ other. omega (arith, once other)) joined.4 more not in
                  (deep.0, deep.1, omega (arith, deep.2), deep.3)
            ]
        | inr more ↦ elim (names_or_not (links here).child slot) [
          | inl is ↦ (here, first_prev slot (Some here) (links here).child children joined.3 is, omega (arith, root), λ next. omega (arith, root, once here, next_in (Some here) (links here).child slot here children joined.3 more next))
          | inr not ↦
              let deep = pred_in (Some here) (links here).child slot children (λ other. omega (arith, once other)) joined.3 more not in
              (deep.0, deep.1, omega (arith, deep.2), deep.3)
        ]
      ]
