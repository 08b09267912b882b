-- An order that goes by unit, and in one unit by another order.
use Rattle.std.proofs.Common.{◌≡◌, Bool, true, false, Contains, List, cond, refl, sym, ap, ◌∙◌, inl, inr}
use Rattle.std.proofs.lemmas.Bool.{cases_Bool, cond-true, cond-false, false≢true, false_from_ne_true}
use Rattle.flat_policy.specs.Laws.Choice.{OrdersMembers}
use Rattle.flat_policy.proofs.Choice.{StrictOn}

-- the same order by another test that agrees on the members
pub order_alike : {X : Type 0} (before after : X → X → Bool) (xs : List X) → ((x y : X) → Contains xs x → Contains xs y → after x y ≡ before x y) → OrdersMembers before xs → OrdersMembers after xs
order_alike before after xs same o = record {
  irreflexive = λ x c. same x x c c ∙ o.irreflexive x c;
  transitive = λ x y z c d e h k. same x z c e ∙ o.transitive x y z c d e (sym (same x y c d) ∙ h) (sym (same y z d e) ∙ k);
  total = λ x y c d h k. o.total x y c d (sym (same x y c d) ∙ h) (sym (same y x d c) ∙ k);
}

-- whether x goes before y: in one unit by one test, otherwise by another of their units
abbrev pub by_unit : {X K : Type 0} → (X → X → Bool) → (X → K) → (X → X → Bool) → (K → K → Bool) → X → X → Bool
by_unit one unit inner outer x y = cond (one x y) (inner x y) (outer (unit x) (unit y))

-- the test of one unit tells whether the units are the same, and both orders are strict on what has M
pub record Units {X K : Type 0} (M : X → Type 0) (one : X → X → Bool) (unit : X → K) (inner : X → X → Bool) (outer : K → K → Bool) : Type 0 where
  pub same : (x y : X) → M x → M y → one x y ≡ true → unit x ≡ unit y
  pub joined : (x y : X) → M x → M y → unit x ≡ unit y → one x y ≡ true
  pub inner_strict : StrictOn M inner
  pub outer_strict : StrictOn M (λ x y. outer (unit x) (unit y))

unit_irreflexive : {X K : Type 0} (M : X → Type 0) (one : X → X → Bool) (unit : X → K) (inner : X → X → Bool) (outer : K → K → Bool) → Units M one unit inner outer → (x : X) → M x → by_unit one unit inner outer x x ≡ false
unit_irreflexive M one unit inner outer u x m =
    cond-true (one x x) (inner x x) (outer (unit x) (unit x)) (u.joined x x m m refl) ∙ u.inner_strict.irreflexive x m

unit_transitive : {X K : Type 0} (M : X → Type 0) (one : X → X → Bool) (unit : X → K) (inner : X → X → Bool) (outer : K → K → Bool) → Units M one unit inner outer → (x y z : X) → M x → M y → M z → by_unit one unit inner outer x y ≡ true → by_unit one unit inner outer y z ≡ true → by_unit one unit inner outer x z ≡ true
unit_transitive M one unit inner outer u x y z mx my mz h k =
    elim (cases_Bool (one x y)) [
      | inl xy ↦ elim (cases_Bool (one y z)) [
        | inl yz ↦ cond-true (one x z) (inner x z) (outer (unit x) (unit z)) (u.joined x z mx mz (u.same x y mx my xy ∙ u.same y z my mz yz))
            ∙ u.inner_strict.transitive x y z mx my mz
            (sym (cond-true (one x y) (inner x y) (outer (unit x) (unit y)) xy) ∙ h)
            (sym (cond-true (one y z) (inner y z) (outer (unit y) (unit z)) yz) ∙ k)
        | inr yz ↦ cond-false (one x z) (inner x z) (outer (unit x) (unit z))
            (false_from_ne_true (one x z) (λ t. false≢true (sym yz ∙ u.joined y z my mz (sym (u.same x y mx my xy) ∙ u.same x z mx mz t))))
            ∙ (ap (λ w. outer w (unit z)) (u.same x y mx my xy) ∙ (sym (cond-false (one y z) (inner y z) (outer (unit y) (unit z)) yz) ∙ k))
      ]
      | inr xy ↦ elim (cases_Bool (one y z)) [
        | inl yz ↦ cond-false (one x z) (inner x z) (outer (unit x) (unit z))
            (false_from_ne_true (one x z) (λ t. false≢true (sym xy ∙ u.joined x y mx my (u.same x z mx mz t ∙ sym (u.same y z my mz yz)))))
            ∙ (ap (λ w. outer (unit x) w) (sym (u.same y z my mz yz)) ∙ (sym (cond-false (one x y) (inner x y) (outer (unit x) (unit y)) xy) ∙ h))
        | inr yz ↦ (
            let over : outer (unit x) (unit z) ≡ true = u.outer_strict.transitive x y z mx my mz
            (sym (cond-false (one x y) (inner x y) (outer (unit x) (unit y)) xy) ∙ h)
            (sym (cond-false (one y z) (inner y z) (outer (unit y) (unit z)) yz) ∙ k) in
            cond-false (one x z) (inner x z) (outer (unit x) (unit z))
            (false_from_ne_true (one x z) (λ t. false≢true
            (sym (u.outer_strict.irreflexive x mx) ∙ (ap (λ w. outer (unit x) w) (u.same x z mx mz t) ∙ over))))
            ∙ over)
      ]
    ]

pub unit_strict : {X K : Type 0} (M : X → Type 0) (one : X → X → Bool) (unit : X → K) (inner : X → X → Bool) (outer : K → K → Bool) → Units M one unit inner outer → StrictOn M (by_unit one unit inner outer)
unit_strict M one unit inner outer u = record {
  irreflexive = unit_irreflexive M one unit inner outer u;
  transitive = unit_transitive M one unit inner outer u;
}

-- where units that are not the same go one before the other, and the order in one unit is total, the whole is total
pub unit_total : {X K : Type 0} (one : X → X → Bool) (unit : X → K) (inner : X → X → Bool) (outer : K → K → Bool) (x y : X)
    → (inner x y ≡ false → inner y x ≡ false → x ≡ y) → (one x y ≡ one y x)
    → (one x y ≡ false → outer (unit x) (unit y) ≡ false → outer (unit y) (unit x) ≡ false → x ≡ y)
    → by_unit one unit inner outer x y ≡ false → by_unit one unit inner outer y x ≡ false → x ≡ y
unit_total one unit inner outer x y within turned apart h k =
    elim (cases_Bool (one x y)) [
      | inl e ↦ within (sym (cond-true (one x y) (inner x y) (outer (unit x) (unit y)) e) ∙ h)
          (sym (cond-true (one y x) (inner y x) (outer (unit y) (unit x)) (sym turned ∙ e)) ∙ k)
      | inr e ↦ apart e (sym (cond-false (one x y) (inner x y) (outer (unit x) (unit y)) e) ∙ h)
          (sym (cond-false (one y x) (inner y x) (outer (unit y) (unit x)) (sym turned ∙ e)) ∙ k)
    ]
