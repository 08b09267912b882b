-- Members of a list that pass a test: counted, found, and kept by filters.
use Rattle.std.proofs.Common.{◌≡◌, ◌⊎◌, ℕ, zero, suc, ◌||◌, ◌+◌, ◌≤◌, Bool, true, false, not, cond, Contains, List, [], ◌∷◌, Some, None, count_by, filter, find, is_some, length, refl, sym, ap, ◌∙◌, subst, inl, inr, arith}
use Rattle.std.specs.List.{list_any}
use Rattle.std.proofs.lemmas.Bool.{cases_Bool, cond-false, cond-true, false≢true}
use Rattle.std.proofs.lemmas.List.Filters.{length-filter_both}
use Rattle.std.proofs.lemmas.List.Sums.{length-filter, sum_by-cons}

contains_cases : {X : Type 0} (y : X) (ys : List X) (x : X) → Contains (y ∷ ys) x → (y ≡ x) ⊎ Contains ys x
contains_cases y ys x (zero, within, is) = inl is
contains_cases y ys x (suc k, within, is) = inr (k, omega (arith, within), is)

pub contains_here : {X : Type 0} (x : X) (xs : List X) → Contains (x ∷ xs) x
contains_here x xs = (0, omega arith, refl)

pub contains_later : {X : Type 0} (y : X) (xs : List X) (x : X) → Contains xs x → Contains (y ∷ xs) x
contains_later y xs x c = (suc c.0, omega (arith, c.1), c.2)

-- what one member counts
counts_one : (b : Bool) → b ≡ true → ◌≡◌ {A = ℕ} (cond b 1 0) 1
counts_one b e = ap {B = ℕ} (λ c. cond c 1 0) e

counts_none : (b : Bool) → b ≡ false → ◌≡◌ {A = ℕ} (cond b 1 0) 0
counts_none b e = ap {B = ℕ} (λ c. cond c 1 0) e

-- some pass and are counted, or none is
pub counted : {X : Type 0} (p : X → Bool) (xs : List X) → ((list_any p xs ≡ true) × (1 ≤ count_by p xs)) ⊎ ((list_any p xs ≡ false) × (count_by p xs ≡ 0))
counted p [] = inr (refl, refl)
counted p (x ∷ xs) =
    elim (cases_Bool (p x)) [
      | inl e ↦ inl (ap (λ b. b || list_any p xs) e, omega (arith, sum_by-cons (λ y. cond (p y) 1 0) x xs, counts_one (p x) e))
      | inr e ↦ elim (counted p xs) [
        | inl some ↦ inl (ap (λ b. b || list_any p xs) e ∙ some.0, omega (arith, sum_by-cons (λ y. cond (p y) 1 0) x xs, some.1))
        | inr none ↦ inr (ap (λ b. b || list_any p xs) e ∙ none.0, omega (arith, sum_by-cons (λ y. cond (p y) 1 0) x xs, counts_none (p x) e, none.1))
      ]
    ]

pub counted_from_any : {X : Type 0} (p : X → Bool) (xs : List X) → list_any p xs ≡ true → 1 ≤ count_by p xs
counted_from_any p xs any = elim (counted p xs) [ inl some ↦ some.1 | inr none ↦ absurd (false≢true (sym none.0 ∙ any)) ]

pub any_from_counted : {X : Type 0} (p : X → Bool) (xs : List X) → 1 ≤ count_by p xs → list_any p xs ≡ true
any_from_counted p xs few = elim (counted p xs) [ inl some ↦ some.0 | inr none ↦ absurd (omega (arith, few, none.1)) ]

pub none_from_uncounted : {X : Type 0} (p : X → Bool) (xs : List X) → count_by p xs ≡ 0 → list_any p xs ≡ false
none_from_uncounted p xs zero_of = elim (counted p xs) [ inl some ↦ absurd (omega (arith, zero_of, some.1)) | inr none ↦ none.0 ]

-- a member that passes is counted
pub member_counted : {X : Type 0} (p : X → Bool) (xs : List X) (x : X) → Contains xs x → p x ≡ true → 1 ≤ count_by p xs
member_counted p [] x c h = absurd (omega (arith, c.1))
member_counted p (y ∷ ys) x c h =
    elim (contains_cases y ys x c) [
      | inl is ↦ omega (arith, counts_one (p y) (ap p is ∙ h), sum_by-cons (λ z. cond (p z) 1 0) y ys)
      | inr later ↦ omega (arith, member_counted p ys x later h, sum_by-cons (λ z. cond (p z) 1 0) y ys)
    ]

-- one is found where one passes
pub found_is_any : {X : Type 0} (p : X → Bool) (xs : List X) → is_some (find p xs) ≡ list_any p xs
found_is_any p [] = refl
found_is_any p (x ∷ xs) =
    elim (cases_Bool (p x)) [
      | inl e ↦ ap is_some (cond-true (p x) (Some x) (find p xs) e) ∙ sym (ap (λ b. b || list_any p xs) e)
      | inr e ↦ ap is_some (cond-false (p x) (Some x) (find p xs) e) ∙ (found_is_any p xs ∙ sym (ap (λ b. b || list_any p xs) e))
    ]

-- none is found where none is counted
pub found_none : {X : Type 0} (p : X → Bool) (xs : List X) → count_by p xs ≡ 0 → find p xs ≡ None
found_none p [] none = refl
found_none p (x ∷ xs) none =
    elim (cases_Bool (p x)) [
      | inl e ↦ absurd (omega (arith, none, counts_one (p x) e, sum_by-cons (λ y. cond (p y) 1 0) x xs))
      | inr e ↦ cond-false (p x) (Some x) (find p xs) e ∙ found_none p xs (omega (arith, none, sum_by-cons (λ y. cond (p y) 1 0) x xs))
    ]

-- the only member that passes is the one that is found
pub found_alone : {X : Type 0} (p : X → Bool) (xs : List X) (x : X) → Contains xs x → p x ≡ true → count_by p xs ≤ 1 → find p xs ≡ Some x
found_alone p [] x c h few = absurd (omega (arith, c.1))
found_alone p (y ∷ ys) x c h few =
    elim (cases_Bool (p y)) [
      | inl e ↦ cond-true (p y) (Some y) (find p ys) e
          ∙ elim (contains_cases y ys x c) [
            | inl is ↦ ap (λ z. Some z) is
            | inr later ↦ absurd (omega (arith, few, counts_one (p y) e, member_counted p ys x later h, sum_by-cons (λ z. cond (p z) 1 0) y ys))
          ]
      | inr e ↦ cond-false (p y) (Some y) (find p ys) e
          ∙ elim (contains_cases y ys x c) [
            | inl is ↦ absurd (false≢true (sym e ∙ (ap p is ∙ h)))
            | inr later ↦ found_alone p ys x later h (omega (arith, few, sum_by-cons (λ z. cond (p z) 1 0) y ys))
          ]
    ]

-- a filter has each member that passes
pub filter_has : {X : Type 0} (p : X → Bool) (xs : List X) (x : X) → Contains xs x → p x ≡ true → Contains (filter p xs) x
filter_has p [] x c h = absurd (omega (arith, c.1))
filter_has p (y ∷ ys) x c h =
    elim (cases_Bool (p y)) [
      | inl e ↦ subst (λ zs. Contains zs x) (sym (cond-true (p y) (y ∷ filter p ys) (filter p ys) e))
          (elim (contains_cases y ys x c) [
            | inl is ↦ subst (λ z. Contains (y ∷ filter p ys) z) is (contains_here y (filter p ys))
            | inr later ↦ contains_later y (filter p ys) x (filter_has p ys x later h)
          ])
      | inr e ↦ subst (λ zs. Contains zs x) (sym (cond-false (p y) (y ∷ filter p ys) (filter p ys) e))
          (elim (contains_cases y ys x c) [
            | inl is ↦ absurd (false≢true (sym e ∙ (ap p is ∙ h)))
            | inr later ↦ filter_has p ys x later h
          ])
    ]

-- without the only member that passes the list is one shorter
pub one_fewer : {X : Type 0} (p : X → Bool) (xs : List X) → count_by p xs ≡ 1 → length (filter (λ x. not (p x)) xs) + 1 ≡ length xs
one_fewer p xs one = omega (arith, one, length-filter p xs, length-filter_both p (λ x. not (p x)) (λ x. refl) xs)

-- what is found passes
pub found_passes : {X : Type 0} (p : X → Bool) (xs : List X) (x : X) → find p xs ≡ Some x → p x ≡ true
found_passes p [] x is = absurd (cc)
found_passes p (y ∷ ys) x is =
    elim (cases_Bool (p y)) [
      | inl e ↦ (let same : y ≡ x = grind (arith, sym (cond-true (p y) (Some y) (find p ys) e) ∙ is) in ap p (sym same) ∙ e)
      | inr e ↦ found_passes p ys x (sym (cond-false (p y) (Some y) (find p ys) e) ∙ is)
    ]
