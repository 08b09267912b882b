-- Lists of entries without two of one arrival: one whose members are members of another passes a test no more often.
use Rattle.std.proofs.Common.{◌≢◌, ℕ, ◌+◌, ◌≤◌, ◌<◌, ◌==◌, Bool, not, cond, Contains, List, [], ◌∷◌, filter, sym, ap, ◌∙◌, subst, inl, inr, arith}
use Rattle.std.specs.Prelude.{count_by}
use Rattle.std.proofs.lemmas.Bool.{cases_Bool, cases_eq, cond-true, cond-false, ne_eqb, not_from_false}
use Rattle.flat_policy.specs.Policy.Moves.{without}
use Rattle.flat_policy.specs.Policy.Queue.{Queued}
use Rattle.flat_policy.specs.Policy.WellFormed.{ArrivalsRise}
use Rattle.clutch_bucket.proofs.Arrivals.{each_of, goes_here, stays_later}
use Rattle.clutch_bucket.proofs.Members.{filter_member, first_member, later_member, member_cases, member_of_filter, no_member}
use Rattle.clutch_bucket.proofs.PricedAnew.{count_cons}

-- no two entries of a list have one arrival
abbrev pub Unlike : List Queued → Type 0
Unlike [] = Unit {0}
Unlike (x ∷ xs) = ((y : Queued) → Contains xs y → y.arrival ≢ x.arrival) × Unlike xs

fewer : (p : Queued → Bool) (a : ℕ) (ys : List Queued) → count_by p (without a ys) ≤ count_by p ys
fewer p a [] = omega arith
fewer p a (y ∷ ys) =
    let more = count_cons p y ys in
    let rest = fewer p a ys in
    elim (cases_eq y.arrival a) [
      | inl e ↦ (let gone = ap (λ (zs : List Queued). count_by p zs) (goes_here a y ys e) in omega (arith, more, rest, gone))
      | inr n ↦ (let kept = ap (λ (zs : List Queued). count_by p zs) (stays_later a y ys n) ∙ count_cons p y (without a ys) in omega (arith, more, rest, kept))
    ]

one_of : (p : Queued → Bool) (ys : List Queued) (x : Queued) → Contains ys x → cond (p x) 1 0 + count_by p (without x.arrival ys) ≤ count_by p ys
one_of p [] x c = absurd (no_member x c)
one_of p (y ∷ ys) x c =
    let more = count_cons p y ys in
    elim (member_cases y ys x c) [
      | inl is ↦ (
          let gone = ap (λ (zs : List Queued). count_by p zs) (goes_here x.arrival y ys (ap (λ (q : Queued). q.arrival) is)) in
          let few = fewer p x.arrival ys in
          let same = ap {B = ℕ} (λ (q : Queued). cond (p q) 1 0) is in
          omega (arith, more, gone, few, same))
      | inr d ↦ (
          let rest = one_of p ys x d in
          elim (cases_eq y.arrival x.arrival) [
            | inl e ↦ (let gone = ap (λ (zs : List Queued). count_by p zs) (goes_here x.arrival y ys e) in omega (arith, more, gone, rest))
            | inr n ↦ (let kept = ap (λ (zs : List Queued). count_by p zs) (stays_later x.arrival y ys n) ∙ count_cons p y (without x.arrival ys) in omega (arith, more, kept, rest))
          ])
    ]

pub no_more : (p : Queued → Bool) (xs ys : List Queued) → Unlike xs → ((x : Queued) → Contains xs x → Contains ys x) → count_by p xs ≤ count_by p ys
no_more p [] ys u h = omega arith
no_more p (x ∷ xs) ys u h =
    let more = count_cons p x xs in
    let one = one_of p ys x (h x (first_member x xs)) in
    let rest = no_more p xs (without x.arrival ys) u.1 (λ y c. member_of_filter (λ (f : Queued). not (f.arrival == x.arrival)) ys y (h y (later_member x xs y c)) (not_from_false (y.arrival == x.arrival) (ne_eqb y.arrival x.arrival (u.0 y c)))) in
    omega (arith, more, one, rest)

-- entries whose arrivals rise are unlike, and so are those that pass a test
pub unlike_rising : (p : Queued → Bool) (es : List Queued) → ArrivalsRise es → Unlike (filter p es)
unlike_rising p [] rise = tt
unlike_rising p (e ∷ es) rise =
    elim (cases_Bool (p e)) [
      | inl h ↦ subst Unlike (sym (cond-true (p e) (e ∷ filter p es) (filter p es) h))
          ((λ y c same. omega (arith, each_of (λ (f : Queued). e.arrival < f.arrival) es rise.0 y (filter_member p es y c).0, same)), unlike_rising p es rise.1)
      | inr h ↦ subst Unlike (sym (cond-false (p e) (e ∷ filter p es) (filter p es) h)) (unlike_rising p es rise.1)
    ]
