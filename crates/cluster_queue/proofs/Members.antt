-- Members of lists, through tests and maps.
use Rattle.std.proofs.Common.{◌≡◌, ◌⊎◌, zero, suc, Bool, true, Contains, List, [], ◌∷◌, filter, map, refl, sym, ap, ◌∙◌, subst, inl, inr, arith}
use Rattle.std.proofs.lemmas.Bool.{cases_Bool, cond-false, cond-true, cond_both, false≢true}
use Rattle.std.proofs.lemmas.List.{get_or-map, length-map, map-id}
use Rattle.flat_policy.specs.Policy.Queue.{Queued}
use Rattle.flat_policy.specs.Policy.WellFormed.{EachQueued}

pub none_within : {X : Type 0} (x : X) → Contains [] x → ⊥
none_within x c = omega (arith, c.1)

-- the first is a member, and so is each of the rest
pub first_member : {X : Type 0} (x : X) (xs : List X) → Contains (x ∷ xs) x
first_member x xs = (0, omega arith, refl)

pub in_tail : {X : Type 0} (y : X) (ys : List X) (x : X) → Contains ys x → Contains (y ∷ ys) x
in_tail y ys x c = (suc c.0, omega (arith, c.1), c.2)

pub head_or_tail : {X : Type 0} (y : X) (ys : List X) (x : X) → Contains (y ∷ ys) x → (y ≡ x) ⊎ Contains ys x
head_or_tail y ys x (zero, within, is) = inl is
head_or_tail y ys x (suc k, within, is) = inr (k, omega (arith, within), is)

-- a member of a filter is one of the list, and passes
pub kept_member : {X : Type 0} (p : X → Bool) (xs : List X) (x : X) → Contains (filter p xs) x → Contains xs x × (p x ≡ true)
kept_member p [] x c = absurd (omega (arith, c.1))
kept_member p (y ∷ ys) x c =
    elim (cases_Bool (p y)) [
      | inl e ↦ elim (head_or_tail y (filter p ys) x (subst (λ zs. Contains zs x) (cond-true (p y) (y ∷ filter p ys) (filter p ys) e) c)) [
        | inl is ↦ ((0, omega arith, is), ap p (sym is) ∙ e)
        | inr d ↦ (let m = kept_member p ys x d in (in_tail y ys x m.0, m.1))
      ]
      | inr e ↦ (let m = kept_member p ys x (subst (λ zs. Contains zs x) (cond-false (p y) (y ∷ filter p ys) (filter p ys) e) c) in (in_tail y ys x m.0, m.1))
    ]

-- a member that passes is one of those that pass
pub filter_has : {X : Type 0} (p : X → Bool) (xs : List X) (y : X) → Contains xs y → p y ≡ true → Contains (filter p xs) y
filter_has p [] y c h = absurd (omega (arith, c.1))
filter_has {X} p (x ∷ xs) y c h =
    cond_both (p x) (x ∷ filter p xs) (filter p xs) (λ (zs : List X). Contains zs y)
    (λ e. elim (head_or_tail x xs y c) [
      | inl is ↦ subst (λ (z : X). Contains (x ∷ filter p xs) z) is (0, omega arith, refl)
      | inr d ↦ in_tail x (filter p xs) y (filter_has p xs y d h)
    ])
    (λ e. elim (head_or_tail x xs y c) [
      | inl is ↦ absurd (false≢true (sym e ∙ (ap p is ∙ h)))
      | inr d ↦ filter_has p xs y d h
    ])

-- a fact of each entry holds of a member
pub fact_of_member : (P : Queued → Type 0) (es : List Queued) (e : Queued) → EachQueued P es → Contains es e → P e
fact_of_member P [] e each c = absurd (omega (arith, c.1))
fact_of_member P (f ∷ fs) e each c =
    elim (head_or_tail f fs e c) [
      | inl is ↦ subst P is each.0
      | inr d ↦ fact_of_member P fs e each.1 d
    ]

-- what a member is mapped to is a member of the map
pub map_has : {X Y : Type 0} (f : X → Y) (xs : List X) (x : X) → Contains xs x → Contains (map f xs) (f x)
map_has f xs x c = (c.0, omega (arith, c.1, length-map xs f), get_or-map f xs c.0 x (f x) c.1 ∙ ap f c.2)

-- a member of a map comes from one of the list
pub member_of_map : {X Y : Type 0} (f : X → Y) (xs : List X) (y : Y) → Contains (map f xs) y → (x : X) × (Contains xs x × (f x ≡ y))
member_of_map f [] y c = absurd (omega (arith, c.1))
member_of_map f (x ∷ xs) y (zero, within, is) = (x, ((0, omega arith, refl), is))
member_of_map f (x ∷ xs) y (suc k, within, is) =
    let m = member_of_map f xs y (k, omega (arith, within), is) in (m.0, ((suc m.1.0.0, omega (arith, m.1.0.1), m.1.0.2), m.1.1))

-- maps that agree at each member
pub map_agrees : {X Y : Type 0} (f g : X → Y) (xs : List X) → ((x : X) → Contains xs x → f x ≡ g x) → map f xs ≡ map g xs
map_agrees f g [] same = refl
map_agrees f g (x ∷ xs) same =
    ap (λ y. y ∷ map f xs) (same x (first_member x xs)) ∙ ap (λ ys. g x ∷ ys) (map_agrees f g xs (λ y c. same y (in_tail x xs y c)))

pub map_alike : {X Y : Type 0} (f g : X → Y) (xs : List X) → ((x : X) → f x ≡ g x) → map f xs ≡ map g xs
map_alike f g xs same = map_agrees f g xs (λ x c. same x)

pub map_keeps : {X : Type 0} (f : X → X) (xs : List X) → ((x : X) → Contains xs x → f x ≡ x) → map f xs ≡ xs
map_keeps f xs same = map_agrees f (λ x. x) xs same ∙ map-id xs

-- a test that a map doesn't change keeps the map of what it keeps
pub filter_of_map : {X : Type 0} (p : X → Bool) (f : X → X) → ((x : X) → p (f x) ≡ p x) → (xs : List X) → filter p (map f xs) ≡ map f (filter p xs)
filter_of_map p f alike [] = refl
filter_of_map {X} p f alike (x ∷ xs) =
    let rest = filter_of_map p f alike xs in
    elim (cases_Bool (p x)) [
      | inl e ↦ cond-true (p (f x)) (f x ∷ filter p (map f xs)) (filter p (map f xs)) (alike x ∙ e)
          ∙ (ap (λ (ys : List X). f x ∷ ys) rest ∙ sym (ap (map f) (cond-true (p x) (x ∷ filter p xs) (filter p xs) e)))
      | inr e ↦ cond-false (p (f x)) (f x ∷ filter p (map f xs)) (filter p (map f xs)) (alike x ∙ e)
          ∙ (rest ∙ sym (ap (map f) (cond-false (p x) (x ∷ filter p xs) (filter p xs) e)))
    ]

-- maps that agree at those that pass
pub map_filter_agree : {X Y : Type 0} (p : X → Bool) (f g : X → Y) → ((x : X) → p x ≡ true → f x ≡ g x) → (xs : List X) → map f (filter p xs) ≡ map g (filter p xs)
map_filter_agree p f g agree [] = refl
map_filter_agree {X} {Y} p f g agree (x ∷ xs) =
    let rest = map_filter_agree p f g agree xs in
    cond_both (p x) (x ∷ filter p xs) (filter p xs) (λ (zs : List X). map f zs ≡ map g zs)
    (λ e. ap (λ (y : Y). y ∷ map f (filter p xs)) (agree x e) ∙ ap (λ (ys : List Y). g x ∷ ys) rest)
    (λ e. rest)
