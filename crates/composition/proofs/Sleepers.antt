-- The thread that is woken first is the one of its name, where no name is blocked twice.
use Rattle.std.proofs.Common.{◌≡◌, ℕ, ◌+◌, ◌≤◌, ◌==◌, ◌||◌, Bool, true, false, not, cond, List, [], ◌∷◌, count_by, filter, map, Some, refl, sym, ap, ◌∙◌, inl, inr, arith, eq-eqb}
use Rattle.std.specs.List.{find, list_any}
use Rattle.std.proofs.lemmas.Bool.{cases_Bool, cond-false, cond-true}
use Rattle.std.proofs.lemmas.List.Sums.{sum_by-cons}
use Rattle.std.proofs.lemmas.Option.{none-some, same_Some}
use Rattle.flat_policy.specs.Policy.Machine.{Sleeper}
use Rattle.flat_policy.specs.Runs.Histories.{DueSleeper, without_first}
use Rattle.composition.specs.Joined.{without_due}

-- whether a blocked thread has a name
abbrev pub has_name : ℕ → Sleeper → Bool
has_name n w = w.facts.name == n

counts : {X : Type 0} (q : X → Bool) (x : X) (xs : List X) (b : Bool) → q x ≡ b → count_by q (x ∷ xs) ≡ cond b 1 0 + count_by q xs
counts q x xs b e = sum_by-cons (λ y. cond (q y) 1 0) x xs ∙ ap (λ c. cond c 1 0 + count_by q xs) e

-- the one that is found is counted
found_counts : (test : DueSleeper → Bool) (ws : List DueSleeper) (w : DueSleeper) → find test ws ≡ Some w → 1 ≤ count_by (has_name w.facts.name) (map without_due ws)
found_counts test [] w h = absurd (none-some w h)
found_counts test (x ∷ ws) w h =
    elim (cases_Bool (test x)) [
      | inl e ↦ (
          let is : x ≡ w = same_Some x w (sym (cond-true (test x) (Some x) (find test ws) e) ∙ h) in
          let one = counts (has_name w.facts.name) (without_due x) (map without_due ws) true (eq-eqb x.facts.name w.facts.name (ap (λ (v : DueSleeper). v.facts.name) is)) in
          omega (arith, one))
      | inr e ↦ omega (
        arith,
        sum_by-cons (λ y. cond (has_name w.facts.name y) 1 0) (without_due x) (map without_due ws),
        found_counts test ws w (sym (cond-false (test x) (Some x) (find test ws) e) ∙ h),
      )
    ]

-- where none passes, all stay
none_leaves : {X : Type 0} (q : X → Bool) (xs : List X) → count_by q xs ≡ 0 → filter (λ x. not (q x)) xs ≡ xs
none_leaves q [] h = refl
none_leaves q (x ∷ xs) h =
    elim (cases_Bool (q x)) [
      | inl e ↦ absurd (omega (arith, h, counts q x xs true e))
      | inr e ↦ (
          let rest : count_by q xs ≡ 0 = omega (arith, h, counts q x xs false e) in
          cond-true (not (q x)) (x ∷ filter (λ y. not (q y)) xs) (filter (λ y. not (q y)) xs) (ap not e) ∙ ap (λ ys. x ∷ ys) (none_leaves q xs rest))
    ]

-- the one that a test finds first is found by its name, and leaves by its name as by the test
pub record LeavesByName (test : DueSleeper → Bool) (ws : List DueSleeper) (w : DueSleeper) : Type 0 where
  pub found : find (has_name w.facts.name) (map without_due ws) ≡ Some (without_due w)
  pub others : filter (λ s. not (has_name w.facts.name s)) (map without_due ws) ≡ map without_due (without_first test ws)

pub leaves_by_name : (test : DueSleeper → Bool) (ws : List DueSleeper) (w : DueSleeper) → find test ws ≡ Some w → count_by (has_name w.facts.name) (map without_due ws) ≤ 1 → LeavesByName test ws w
leaves_by_name test [] w h few = absurd (none-some w h)
leaves_by_name test (x ∷ ws) w h few =
    let q : Sleeper → Bool = has_name w.facts.name in
    let rest : List Sleeper = map without_due ws in
    let kept : List Sleeper = filter (λ s. not (q s)) rest in
    elim (cases_Bool (test x)) [
      | inl e ↦ (
          let is : x ≡ w = same_Some x w (sym (cond-true (test x) (Some x) (find test ws) e) ∙ h) in
          let named : q (without_due x) ≡ true = eq-eqb x.facts.name w.facts.name (ap (λ (v : DueSleeper). v.facts.name) is) in
          let none : count_by q rest ≡ 0 = omega (arith, few, counts q (without_due x) rest true named) in
          record {
            found = cond-true (q (without_due x)) (Some (without_due x)) (find q rest) named ∙ ap (λ (v : DueSleeper). Some (without_due v)) is;
            others = cond-false (not (q (without_due x))) (without_due x ∷ kept) kept (ap not named)
                ∙ (none_leaves q rest none
                ∙ ap (λ vs. map without_due vs) (sym (cond-true (test x) ws (x ∷ without_first test ws) e)));
          })
      | inr e ↦ (
          let later : find test ws ≡ Some w = sym (cond-false (test x) (Some x) (find test ws) e) ∙ h in
          let one = found_counts test ws w later in
          let other : q (without_due x) ≡ false = elim (cases_Bool (q (without_due x))) [
            | inl same ↦ absurd (omega (arith, few, one, counts q (without_due x) rest true same))
            | inr unlike ↦ unlike
          ] in
          let less : count_by q rest ≤ 1 = omega (arith, few, counts q (without_due x) rest false other) in
          let r = leaves_by_name test ws w later less in
          record {
            found = cond-false (q (without_due x)) (Some (without_due x)) (find q rest) other ∙ r.found;
            others = cond-true (not (q (without_due x))) (without_due x ∷ kept) kept (ap not other)
                ∙ (ap (λ vs. without_due x ∷ vs) r.others
                ∙ ap (λ vs. map without_due vs) (sym (cond-false (test x) ws (x ∷ without_first test ws) e)));
          })
    ]

-- what is found is there
pub found_is_there : {X : Type 0} (p : X → Bool) (xs : List X) (x : X) → find p xs ≡ Some x → list_any p xs ≡ true
found_is_there p [] x h = absurd (none-some x h)
found_is_there p (y ∷ ys) x h =
    elim (cases_Bool (p y)) [
      | inl e ↦ ap (λ b. b || list_any p ys) e
      | inr e ↦ ap (λ b. b || list_any p ys) e ∙ found_is_there p ys x (sym (cond-false (p y) (Some y) (find p ys) e) ∙ h)
    ]
