-- Members of lists: by cases, through filters, and what tests find.
use Rattle.std.proofs.Common.{◌≡◌, ◌⊎◌, zero, suc, Bool, true, false, List, [], ◌∷◌, Some, Contains, All, filter, find, refl, sym, ap, ◌∙◌, subst, inl, inr, arith}
use Rattle.std.specs.List.{list_any}
use Rattle.std.proofs.lemmas.Bool.{cases_Bool, false≢true, or_left, or_right, or_cases, or_parts, or_from, cond-true, cond-false}
use Rattle.std.proofs.lemmas.List.Elements.{Contains-get_or}

pub contains_here : {X : Type 0} (x : X) (xs : List X) → Contains (x ∷ xs) x
contains_here x xs = (0, omega arith, refl)

pub contains_later : {X : Type 0} (y : X) (xs : List X) (x : X) → Contains xs x → Contains (y ∷ xs) x
contains_later y xs x c = (suc c.0, omega (arith, c.1), c.2)

pub contains_cases : {X : Type 0} (y : X) (ys : List X) (x : X) → Contains (y ∷ ys) x → (y ≡ x) ⊎ Contains ys x
contains_cases y ys x (zero, within, is) = inl is
contains_cases y ys x (suc k, within, is) = inr (k, omega (arith, within), is)

pub contains_none : {X : Type 0} (x : X) → Contains [] x → ⊥
contains_none x c = omega (arith, c.1)

-- a fact of each member is a fact at each place
pub all_from_members : {X : Type 0} (P : X → Type 0) (xs : List X) → ((x : X) → Contains xs x → P x) → All P xs
all_from_members P xs h = λ k d within. h _ (Contains-get_or xs k d within)

pub any_from_member : {X : Type 0} (p : X → Bool) (xs : List X) (x : X) → Contains xs x → p x ≡ true → list_any p xs ≡ true
any_from_member p [] x c h = absurd (contains_none x c)
any_from_member p (y ∷ ys) x c h =
    elim (contains_cases y ys x c) [
      | inl e ↦ or_left (p y) (list_any p ys) (ap p e ∙ h)
      | inr d ↦ or_right (p y) (list_any p ys) (any_from_member p ys x d h)
    ]

pub member_from_any : {X : Type 0} (p : X → Bool) (xs : List X) → list_any p xs ≡ true → (x : X) × Contains xs x × (p x ≡ true)
member_from_any p [] h = absurd (false≢true h)
member_from_any p (y ∷ ys) h =
    elim (or_cases (p y) (list_any p ys) h) [
      | inl e ↦ (y, contains_here y ys, e)
      | inr e ↦ (let m = member_from_any p ys e in (m.0, contains_later y ys m.0 m.1, m.2))
    ]

pub each_from_none : {X : Type 0} (p : X → Bool) (xs : List X) → list_any p xs ≡ false → (x : X) → Contains xs x → p x ≡ false
each_from_none p [] h x c = absurd (contains_none x c)
each_from_none p (y ∷ ys) h x c =
    elim (contains_cases y ys x c) [
      | inl e ↦ ap p (sym e) ∙ (or_parts (p y) (list_any p ys) h).0
      | inr d ↦ each_from_none p ys (or_parts (p y) (list_any p ys) h).1 x d
    ]

pub none_from_each : {X : Type 0} (p : X → Bool) (xs : List X) → ((x : X) → Contains xs x → p x ≡ false) → list_any p xs ≡ false
none_from_each p [] h = refl
none_from_each p (y ∷ ys) h =
    or_from (p y) (list_any p ys) (h y (contains_here y ys)) (none_from_each p ys (λ x c. h x (contains_later y ys x c)))

-- what `find` finds is a member that passes, and it finds one wherever one passes
pub find_finds : {X : Type 0} (p : X → Bool) (xs : List X) (x : X) → find p xs ≡ Some x → Contains xs x × (p x ≡ true)
find_finds p [] x h = grind arith
find_finds p (y ∷ ys) x h =
    elim (cases_Bool (p y)) [
      | inl e ↦ (let same : y ≡ x = grind (arith, sym (cond-true (p y) (Some y) (find p ys) e) ∙ h) in
          (subst (λ z. Contains (y ∷ ys) z) same (contains_here y ys), ap p (sym same) ∙ e))
      | inr e ↦ (let m = find_finds p ys x (sym (cond-false (p y) (Some y) (find p ys) e) ∙ h) in (contains_later y ys x m.0, m.1))
    ]

pub finds_from_member : {X : Type 0} (p : X → Bool) (xs : List X) (x : X) → Contains xs x → p x ≡ true → (y : X) × (find p xs ≡ Some y)
finds_from_member p [] x c h = absurd (contains_none x c)
finds_from_member p (y ∷ ys) x c h =
    elim (cases_Bool (p y)) [
      | inl e ↦ (y, cond-true (p y) (Some y) (find p ys) e)
      | inr e ↦ elim (contains_cases y ys x c) [
        | inl is ↦ absurd (false≢true (sym e ∙ (ap p is ∙ h)))
        | inr d ↦ (let m = finds_from_member p ys x d h in (m.0, cond-false (p y) (Some y) (find p ys) e ∙ m.1))
      ]
    ]

-- the members of a filter
pub member_of_filter : {X : Type 0} (p : X → Bool) (xs : List X) (x : X) → Contains (filter p xs) x → Contains xs x × (p x ≡ true)
member_of_filter p [] x c = absurd (contains_none x c)
member_of_filter p (y ∷ ys) x c =
    elim (cases_Bool (p y)) [
      | inl e ↦ elim (contains_cases y (filter p ys) x (subst (λ zs. Contains zs x) (cond-true (p y) (y ∷ filter p ys) (filter p ys) e) c)) [
        | inl is ↦ (subst (λ z. Contains (y ∷ ys) z) is (contains_here y ys), ap p (sym is) ∙ e)
        | inr d ↦ (let m = member_of_filter p ys x d in (contains_later y ys x m.0, m.1))
      ]
      | inr e ↦ (let m = member_of_filter p ys x (subst (λ zs. Contains zs x) (cond-false (p y) (y ∷ filter p ys) (filter p ys) e) c) in
          (contains_later y ys x m.0, m.1))
    ]

pub filter_has : {X : Type 0} (p : X → Bool) (xs : List X) (x : X) → Contains xs x → p x ≡ true → Contains (filter p xs) x
filter_has p [] x c h = absurd (contains_none x c)
filter_has p (y ∷ ys) x c h =
    elim (cases_Bool (p y)) [
      | inl e ↦ subst (λ zs. Contains zs x) (sym (cond-true (p y) (y ∷ filter p ys) (filter p ys) e))
          (elim (contains_cases y ys x c) [
            | inl is ↦ subst (λ z. Contains (y ∷ filter p ys) z) is (contains_here y (filter p ys))
            | inr d ↦ contains_later y (filter p ys) x (filter_has p ys x d h)
          ])
      | inr e ↦ subst (λ zs. Contains zs x) (sym (cond-false (p y) (y ∷ filter p ys) (filter p ys) e))
          (elim (contains_cases y ys x c) [
            | inl is ↦ absurd (false≢true (sym e ∙ (ap p is ∙ h)))
            | inr d ↦ filter_has p ys x d h
          ])
    ]
