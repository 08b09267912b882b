-- What passes a test, at the front of a list and behind it.
use Rattle.std.proofs.Common.{◌≡◌, ◌⊎◌, Bool, true, false, cond, List, [], ◌∷◌, ◌++◌, length, Option, Some, None, filter, refl, sym, ap, ◌∙◌, subst, inl, inr, append-nil}
use Rattle.std.specs.List.{slice_get}
use Rattle.std.proofs.lemmas.Bool.{cases_Bool, false≢true, cond-true, cond-false}
use Rattle.std.proofs.lemmas.List.Elements.{filter-append}
use Rattle.std.proofs.lemmas.Option.{none-some}

pub list_cases : {X : Type 0} (xs : List X) → (xs ≡ []) ⊎ ((y : X) × (ys : List X) × (xs ≡ y ∷ ys))
list_cases [] = inl refl
list_cases (y ∷ ys) = inr (y, ys, refl)

-- what stands right behind the front of a list
pub get_behind : {X : Type 0} (xs : List X) (y : X) (ys : List X) → slice_get (xs ++ y ∷ ys) (length xs) ≡ Some y
get_behind [] y ys = refl
get_behind (x ∷ xs) y ys = get_behind xs y ys

pub rest_begins : {X : Type 0} (xs ys : List X) (y : X) → slice_get (xs ++ ys) (length xs) ≡ Some y → (zs : List X) × (ys ≡ y ∷ zs)
rest_begins [] [] y h = absurd (none-some y h)
rest_begins [] (z ∷ zs) y h = (let same : z ≡ y = cc in (zs, ap (λ w. w ∷ zs) same))
rest_begins (x ∷ xs) ys y h = rest_begins xs ys y h

-- a list is cut at the first that passes
pub cut_at_first : {X : Type 0} (p : X → Bool) (xs : List X) (y : X) (ys : List X) → filter p xs ≡ y ∷ ys → (front : List X) × (back : List X) × (xs ≡ front ++ y ∷ back) × (filter p front ≡ [])
cut_at_first p [] y ys h = absurd (cc)
cut_at_first p (x ∷ xs) y ys h =
    elim (cases_Bool (p x)) [
      | inl e ↦ (let found : x ∷ filter p xs ≡ y ∷ ys = sym (cond-true (p x) (x ∷ filter p xs) (filter p xs) e) ∙ h in
          let same : x ≡ y = cc in
          ([], xs, ap (λ z. z ∷ xs) same, refl))
      | inr e ↦ (let later = cut_at_first p xs y ys (sym (cond-false (p x) (x ∷ filter p xs) (filter p xs) e) ∙ h) in
          (x ∷ later.0, later.1, ap (λ zs. x ∷ zs) later.2, cond-false (p x) (x ∷ filter p later.0) (filter p later.0) e ∙ later.3))
    ]

-- where none passes one test, the first that passes another doesn't pass the one
pub none_is_first : {X : Type 0} (p q : X → Bool) (xs : List X) (y : X) (ys : List X) → filter p xs ≡ [] → filter q xs ≡ y ∷ ys → p y ≡ true → ⊥
none_is_first p q [] y ys none first h = cc
none_is_first p q (x ∷ xs) y ys none first h =
    elim (cases_Bool (p x)) [
      | inl e ↦ (let some : x ∷ filter p xs ≡ [] = sym (cond-true (p x) (x ∷ filter p xs) (filter p xs) e) ∙ none in cc)
      | inr e ↦ elim (cases_Bool (q x)) [
        | inl f ↦ (let found : x ∷ filter q xs ≡ y ∷ ys = sym (cond-true (q x) (x ∷ filter q xs) (filter q xs) f) ∙ first in
            let same : x ≡ y = cc in
            false≢true (sym e ∙ ap p same ∙ h))
        | inr f ↦ none_is_first p q xs y ys (sym (cond-false (p x) (x ∷ filter p xs) (filter p xs) e) ∙ none)
            (sym (cond-false (q x) (x ∷ filter q xs) (filter q xs) f) ∙ first) h
      ]
    ]

-- moving one to the front leaves what passes a test as it is, where it doesn't pass or passes first
pub moved_to_front : {X : Type 0} (q : X → Bool) (front : List X) (y : X) (back : List X) → (q y ≡ true → filter q front ≡ []) → filter q (y ∷ (front ++ back)) ≡ filter q (front ++ y ∷ back)
moved_to_front q front y back first =
    let behind : filter q (front ++ y ∷ back) ≡ filter q front ++ filter q (y ∷ back) = filter-append q front (y ∷ back) in
    let both : filter q (front ++ back) ≡ filter q front ++ filter q back = filter-append q front back in
    elim (cases_Bool (q y)) [
      | inl e ↦ cond-true (q y) (y ∷ filter q (front ++ back)) (filter q (front ++ back)) e
          ∙ ap (λ zs. y ∷ zs) (both ∙ ap (λ zs. zs ++ filter q back) (first e))
          ∙ sym (behind ∙ ap (λ zs. zs ++ filter q (y ∷ back)) (first e) ∙ cond-true (q y) (y ∷ filter q back) (filter q back) e)
      | inr e ↦ cond-false (q y) (y ∷ filter q (front ++ back)) (filter q (front ++ back)) e
          ∙ both
          ∙ sym (behind ∙ ap (λ zs. filter q front ++ zs) (cond-false (q y) (y ∷ filter q back) (filter q back) e))
    ]

-- one more at the end, that passes or not
pub more_passes : {X : Type 0} (q : X → Bool) (xs : List X) (y : X) → q y ≡ true → filter q (xs ++ y ∷ []) ≡ filter q xs ++ y ∷ []
more_passes q xs y h = filter-append q xs (y ∷ []) ∙ ap (λ zs. filter q xs ++ zs) (cond-true (q y) (y ∷ []) [] h)

pub more_fails : {X : Type 0} (q : X → Bool) (xs : List X) (y : X) → q y ≡ false → filter q (xs ++ y ∷ []) ≡ filter q xs
more_fails q xs y h =
    filter-append q xs (y ∷ []) ∙ ap (λ zs. filter q xs ++ zs) (cond-false (q y) (y ∷ []) [] h) ∙ append-nil (filter q xs)
