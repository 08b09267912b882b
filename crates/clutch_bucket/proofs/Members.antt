-- Members of lists, by cases, and through tests and filters.
use Rattle.std.proofs.Common.{◌≡◌, ◌⊎◌, zero, suc, Bool, true, false, List, [], ◌∷◌, Contains, filter, refl, sym, ap, ◌∙◌, subst, inl, inr, arith}
use Rattle.std.specs.List.{list_any}
use Rattle.std.proofs.lemmas.Bool.{cases_Bool, false≢true, or_left, or_right, or_cases, or_parts, or_from, cond-true, cond-false}

pub first_member : {X : Type 0} (x : X) (xs : List X) → Contains (x ∷ xs) x
first_member x xs = (0, omega arith, refl)

pub later_member : {X : Type 0} (y : X) (xs : List X) (x : X) → Contains xs x → Contains (y ∷ xs) x
later_member y xs x c = (suc c.0, omega (arith, c.1), c.2)

pub no_member : {X : Type 0} (x : X) → Contains [] x → ⊥
no_member x c = omega (arith, c.1)

pub member_cases : {X : Type 0} (y : X) (ys : List X) (x : X) → Contains (y ∷ ys) x → (y ≡ x) ⊎ Contains ys x
member_cases y ys x (zero, within, is) = inl is
member_cases y ys x (suc k, within, is) = inr (k, omega (arith, within), is)

-- a test that a member passes finds one, and a test that finds one has a member that passes it
pub some_passes : {X : Type 0} (p : X → Bool) (xs : List X) (x : X) → Contains xs x → p x ≡ true → list_any p xs ≡ true
some_passes p [] x c h = absurd (no_member x c)
some_passes p (y ∷ ys) x c h =
    elim (member_cases y ys x c) [
      | inl is ↦ or_left (p y) (list_any p ys) (ap p is ∙ h)
      | inr d ↦ or_right (p y) (list_any p ys) (some_passes p ys x d h)
    ]

pub passing_member : {X : Type 0} (p : X → Bool) (xs : List X) → list_any p xs ≡ true → (x : X) × (Contains xs x × (p x ≡ true))
passing_member p [] h = absurd (false≢true h)
passing_member p (y ∷ ys) h =
    elim (or_cases (p y) (list_any p ys) h) [
      | inl e ↦ (y, (first_member y ys, e))
      | inr e ↦ (let m = passing_member p ys e in (m.0, (later_member y ys m.0 m.1.0, m.1.1)))
    ]

pub none_passes : {X : Type 0} (p : X → Bool) (xs : List X) → ((x : X) → Contains xs x → p x ≡ false) → list_any p xs ≡ false
none_passes p [] h = refl
none_passes p (y ∷ ys) h = or_from (p y) (list_any p ys) (h y (first_member y ys)) (none_passes p ys (λ x c. h x (later_member y ys x c)))

pub each_fails : {X : Type 0} (p : X → Bool) (xs : List X) → list_any p xs ≡ false → (x : X) → Contains xs x → p x ≡ false
each_fails p [] h x c = absurd (no_member x c)
each_fails p (y ∷ ys) h x c =
    let parts = or_parts (p y) (list_any p ys) h in
    elim (member_cases y ys x c) [
      | inl is ↦ ap p (sym is) ∙ parts.0
      | inr d ↦ each_fails p ys parts.1 x d
    ]

-- the members of a filter are the members that pass
pub filter_member : {X : Type 0} (p : X → Bool) (xs : List X) (x : X) → Contains (filter p xs) x → Contains xs x × (p x ≡ true)
filter_member p [] x c = absurd (no_member x c)
filter_member p (y ∷ ys) x c =
    elim (cases_Bool (p y)) [
      | inl e ↦ elim (member_cases y (filter p ys) x (subst (λ zs. Contains zs x) (cond-true (p y) (y ∷ filter p ys) (filter p ys) e) c)) [
        | inl is ↦ (subst (λ z. Contains (y ∷ ys) z) is (first_member y ys), ap p (sym is) ∙ e)
        | inr d ↦ (let m = filter_member p ys x d in (later_member y ys x m.0, m.1))
      ]
      | inr e ↦ (let m = filter_member p ys x (subst (λ zs. Contains zs x) (cond-false (p y) (y ∷ filter p ys) (filter p ys) e) c) in (later_member y ys x m.0, m.1))
    ]

pub member_of_filter : {X : Type 0} (p : X → Bool) (xs : List X) (x : X) → Contains xs x → p x ≡ true → Contains (filter p xs) x
member_of_filter p [] x c h = absurd (no_member x c)
member_of_filter p (y ∷ ys) x c h =
    elim (cases_Bool (p y)) [
      | inl e ↦ subst (λ zs. Contains zs x) (sym (cond-true (p y) (y ∷ filter p ys) (filter p ys) e))
          (elim (member_cases y ys x c) [
            | inl is ↦ subst (λ z. Contains (y ∷ filter p ys) z) is (first_member y (filter p ys))
            | inr d ↦ later_member y (filter p ys) x (member_of_filter p ys x d h)
          ])
      | inr e ↦ subst (λ zs. Contains zs x) (sym (cond-false (p y) (y ∷ filter p ys) (filter p ys) e))
          (elim (member_cases y ys x c) [
            | inl is ↦ absurd (false≢true (sym e ∙ (ap p is ∙ h)))
            | inr d ↦ member_of_filter p ys x d h
          ])
    ]
