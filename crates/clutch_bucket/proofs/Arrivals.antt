-- What remains of entries, whose arrivals rise, without those of one arrival.
use Rattle.std.proofs.Common.{◌≡◌, ◌≢◌, ℕ, ◌+◌, ◌<◌, ◌==◌, Bool, true, false, cond, not, List, [], ◌∷◌, Contains, filter, length, refl, sym, ap, ◌∙◌, subst, inl, inr, arith, eq-eqb}
use Rattle.std.proofs.lemmas.Bool.{cases_Bool, cond-true, cond-false, ne_eqb, not_from_true, not_from_false}
use Rattle.flat_policy.specs.Policy.Moves.{without}
use Rattle.flat_policy.specs.Policy.Queue.{Queued}
use Rattle.flat_policy.specs.Policy.WellFormed.{ArrivalsRise, EachQueued}
use Rattle.clutch_bucket.proofs.Members.{member_cases, no_member}

pub each_of : (P : Queued → Type 0) (es : List Queued) → EachQueued P es → (e : Queued) → Contains es e → P e
each_of P [] h e c = absurd (no_member e c)
each_of P (x ∷ xs) h e c =
    elim (member_cases x xs e c) [
      | inl is ↦ subst P is h.0
      | inr d ↦ each_of P xs h.1 e d
    ]

-- two entries of one arrival are one
pub one_of_arrival : (es : List Queued) → ArrivalsRise es → (x y : Queued) → Contains es x → Contains es y → x.arrival ≡ y.arrival → x ≡ y
one_of_arrival [] rise x y cx cy same = absurd (no_member x cx)
one_of_arrival (z ∷ zs) rise x y cx cy same =
    elim (member_cases z zs x cx) [
      | inl zx ↦ elim (member_cases z zs y cy) [
        | inl zy ↦ sym zx ∙ zy
        | inr dy ↦ absurd (omega (arith, each_of (λ (f : Queued). z.arrival < f.arrival) zs rise.0 y dy, ap (λ (q : Queued). q.arrival) zx, same))
      ]
      | inr dx ↦ elim (member_cases z zs y cy) [
        | inl zy ↦ absurd (omega (arith, each_of (λ (f : Queued). z.arrival < f.arrival) zs rise.0 x dx, ap (λ (q : Queued). q.arrival) zy, same))
        | inr dy ↦ one_of_arrival zs rise.1 x y dx dy same
      ]
    ]

pub stays_later : (a : ℕ) (x : Queued) (xs : List Queued) → x.arrival ≢ a → without a (x ∷ xs) ≡ x ∷ without a xs
stays_later a x xs n = cond-true (not (x.arrival == a)) (x ∷ without a xs) (without a xs) (not_from_false (x.arrival == a) (ne_eqb x.arrival a n))

pub goes_here : (a : ℕ) (x : Queued) (xs : List Queued) → x.arrival ≡ a → without a (x ∷ xs) ≡ without a xs
goes_here a x xs e = cond-false (not (x.arrival == a)) (x ∷ without a xs) (without a xs) (not_from_true (x.arrival == a) (eq-eqb x.arrival a e))

all_stay : (a : ℕ) (es : List Queued) → EachQueued (λ (f : Queued). a < f.arrival) es → without a es ≡ es
all_stay a [] h = refl
all_stay a (x ∷ xs) h = stays_later a x xs (λ e. omega (arith, h.0, e)) ∙ ap (λ (ys : List Queued). x ∷ ys) (all_stay a xs h.1)

first_goes : (x e : Queued) (xs : List Queued) → EachQueued (λ (f : Queued). x.arrival < f.arrival) xs → x ≡ e → without e.arrival (x ∷ xs) ≡ xs
first_goes x e xs above is =
    let same = ap (λ (q : Queued). q.arrival) is in
    goes_here e.arrival x xs same ∙ all_stay e.arrival xs (subst (λ (a : ℕ). EachQueued (λ (f : Queued). a < f.arrival) xs) same above)

-- a test that the entry fails keeps the same entries
pub others_stay : (p : Queued → Bool) (es : List Queued) → ArrivalsRise es → (e : Queued) → Contains es e → p e ≡ false → filter p (without e.arrival es) ≡ filter p es
others_stay p [] rise e c h = refl
others_stay p (x ∷ xs) rise e c h =
    elim (member_cases x xs e c) [
      | inl is ↦ ap (filter p) (first_goes x e xs rise.0 is) ∙ sym (cond-false (p x) (x ∷ filter p xs) (filter p xs) (ap p is ∙ h))
      | inr d ↦ ap (filter p) (stays_later e.arrival x xs (λ same. omega (arith, same, each_of (λ (f : Queued). x.arrival < f.arrival) xs rise.0 e d)))
          ∙ ap (λ (ys : List Queued). cond (p x) (x ∷ ys) ys) (others_stay p xs rise.1 e d h)
    ]

-- a test that the entry passes keeps one entry less
pub one_less : (p : Queued → Bool) (es : List Queued) → ArrivalsRise es → (e : Queued) → Contains es e → p e ≡ true → length (filter p (without e.arrival es)) + 1 ≡ length (filter p es)
one_less p [] rise e c h = absurd (no_member e c)
one_less p (x ∷ xs) rise e c h =
    elim (member_cases x xs e c) [
      | inl is ↦ (
          let gone = ap (λ (ys : List Queued). length (filter p ys)) (first_goes x e xs rise.0 is) in
          let had = ap (λ (ys : List Queued). length ys) (cond-true (p x) (x ∷ filter p xs) (filter p xs) (ap p is ∙ h)) in
          omega (arith, gone, had))
      | inr d ↦ (
          let less = one_less p xs rise.1 e d h in
          let stay = ap (λ (ys : List Queued). length (filter p ys)) (stays_later e.arrival x xs (λ same. omega (arith, same, each_of (λ (f : Queued). x.arrival < f.arrival) xs rise.0 e d))) in
          elim (cases_Bool (p x)) [
            | inl yes_x ↦ (
                let now_ = ap (λ (ys : List Queued). length ys) (cond-true (p x) (x ∷ filter p (without e.arrival xs)) (filter p (without e.arrival xs)) yes_x) in
                let then_ = ap (λ (ys : List Queued). length ys) (cond-true (p x) (x ∷ filter p xs) (filter p xs) yes_x) in
                omega (arith, less, stay, now_, then_))
            | inr no_x ↦ (
                let now_ = ap (λ (ys : List Queued). length ys) (cond-false (p x) (x ∷ filter p (without e.arrival xs)) (filter p (without e.arrival xs)) no_x) in
                let then_ = ap (λ (ys : List Queued). length ys) (cond-false (p x) (x ∷ filter p xs) (filter p xs) no_x) in
                omega (arith, less, stay, now_, then_))
          ])
    ]
