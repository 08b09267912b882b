-- The names made in a history are made once each, so that those alive are those made and not ended.
use Rattle.std.proofs.Common.{◌≡◌, ◌⊎◌, ℕ, ◌+◌, ◌≤◌, ◌==◌, ◌||◌, Bool, true, false, not, cond, List, [], ◌∷◌, ◌++◌, count_by, length, refl, sym, ap, ◌∙◌, subst, inl, inr, arith, append-nil, eq-eqb, eqb-true}
use Rattle.std.specs.List.{list_any}
use Rattle.std.proofs.lemmas.Bool.{cases_Bool}
use Rattle.std.proofs.lemmas.List.Sums.{sum_by-cons, sum_by_push}
use Rattle.sched_base.specs.declared.Entry.{Entry}
use Rattle.flat_policy.specs.Laws.Counts.{EachNameOnce}
use Rattle.flat_policy.specs.Laws.Places.{names_alive}
use Rattle.flat_policy.specs.Laws.Sound.{Sound}
use Rattle.flat_policy.specs.Policy.Machine.{GRun, MachineState, RunsFrom, Yard, empty_machine, live_count, state_after}
use Rattle.flat_policy.specs.Policy.Setup.{SetupParts}
use Rattle.flat_policy.proofs.Accepted.{step_goes}
use Rattle.flat_policy.proofs.PlaceOf.{counted}
use Rattle.flat_policy.proofs.Placed.{sum_by_alike}
use Rattle.flat_policy.proofs.Runs.{empty_sound, reached}
use Rattle.flat_policy.proofs.SoundParts.{Goes}

-- how often a number stands in a list
abbrev times_in : ℕ → List ℕ → ℕ
times_in name ns = count_by (λ n. n == name) ns

-- 1 where a test passes
abbrev one_of : Bool → ℕ
one_of b = cond b 1 0

-- each name was made once at most
abbrev MadeOnce : MachineState → Type 0
MadeOnce g = (name : ℕ) → times_in name g.yard.made ≤ 1

one_at_most_more : (made : List ℕ) (n name : ℕ) → list_any (λ m. m == n) made ≡ false → times_in name made ≤ 1 → times_in name (made ++ n ∷ []) ≤ 1
one_at_most_more made n name fresh once =
    elim (cases_Bool (n == name)) [
      | inl e ↦ (
          let none : list_any (λ m. m == name) made ≡ false = subst (λ k. list_any (λ m. m == k) made ≡ false) (eqb-true n name e) fresh in
          elim (counted (λ m. m == name) made) [
            | inl some ↦ absurd (grind (arith, none, some.0))
            | inr never ↦ omega (arith, sum_by_push (λ m. one_of (m == name)) made n, ap one_of e, never.1)
          ])
      | inr e ↦ omega (arith, sum_by_push (λ m. one_of (m == name)) made n, ap one_of e, once)
    ]

made_once_by : (g after : MachineState) (names : List ℕ) → MadeOnce g → after.yard.made ≡ g.yard.made ++ names → ((names ≡ []) ⊎ ((n : ℕ) × (names ≡ n ∷ []) × (list_any (λ m. m == n) g.yard.made ≡ false))) → MadeOnce after
made_once_by g after names once made (inl none) =
    λ name. omega (arith, once name, ap (times_in name) (made ∙ (ap (λ ns. g.yard.made ++ ns) none ∙ append-nil g.yard.made)))
made_once_by g after names once made (inr one) =
    λ name. omega (
      arith,
      one_at_most_more g.yard.made one.0 name one.2 (once name),
      ap (times_in name) (made ∙ ap (λ ns. g.yard.made ++ ns) one.1),
    )

run_made_once : (setup : SetupParts) (g : MachineState) (es : List Entry) (end : MachineState) → Sound setup g → MadeOnce g → RunsFrom setup g es end → MadeOnce end
run_made_once setup g [] end sound once run = subst MadeOnce (sym run) once
run_made_once setup g (e ∷ es) end sound once run =
    let go : Goes setup g (state_after setup g e.step) = step_goes setup g e.step sound run.0 in
    run_made_once setup (state_after setup g e.step) es end go.sound (made_once_by g (state_after setup g e.step) go.names once go.made go.fresh) run.2

either : (a b : Bool) → (a ≡ true → b ≡ false) → one_of (a || b) ≡ one_of a + one_of b
either true b apart = omega (arith, ap one_of (apart refl))
either false b apart = omega arith

-- two tests that never pass together
count_either : {X : Type 0} (p q : X → Bool) (xs : List X) → ((x : X) → p x ≡ true → q x ≡ false) → count_by (λ x. p x || q x) xs ≡ count_by p xs + count_by q xs
count_either p q [] apart = refl
count_either p q (x ∷ xs) apart =
    let here : one_of (p x || q x) ≡ one_of (p x) + one_of (q x) = either (p x) (q x) (apart x) in
    omega (
      arith,
      sum_by-cons (λ y. one_of (p y || q y)) x xs,
      sum_by-cons (λ y. one_of (p y)) x xs,
      sum_by-cons (λ y. one_of (q y)) x xs,
      here,
      count_either p q xs apart,
    )

one_side : (b : Bool) → one_of b + one_of (not b) ≡ 1
one_side true = omega arith
one_side false = omega arith

count_other : {X : Type 0} (p : X → Bool) (xs : List X) → count_by p xs + count_by (λ x. not (p x)) xs ≡ length xs
count_other p [] = refl
count_other p (x ∷ xs) =
    omega (
      arith,
      sum_by-cons (λ y. one_of (p y)) x xs,
      sum_by-cons (λ y. one_of (not (p y))) x xs,
      one_side (p x),
      count_other p xs,
    )

swapped : (m n : ℕ) → one_of (m == n) ≡ one_of (n == m)
swapped m n =
    elim (cases_Bool (m == n)) [
      | inl e ↦ ap one_of (e ∙ sym (eq-eqb n m (sym (eqb-true m n e))))
      | inr e ↦ elim (cases_Bool (n == m)) [
        | inl f ↦ ap one_of (eq-eqb m n (sym (eqb-true n m f)) ∙ sym f)
        | inr f ↦ ap one_of (e ∙ sym f)
      ]
    ]

none_counted : (made : List ℕ) → count_by (λ n. false) made ≡ 0
none_counted [] = refl
none_counted (n ∷ ns) = omega (arith, sum_by-cons (λ m. cond false 1 0) n ns, none_counted ns)

-- of names made once each, as many have ended as stand among the ended ones
ended_among : (made ended : List ℕ) → ((name : ℕ) → times_in name made ≤ 1) → ((name : ℕ) → times_in name ended ≤ times_in name made) → count_by (λ n. list_any (λ m. m == n) ended) made ≡ length ended
ended_among made [] once among = none_counted made
ended_among made (e ∷ es) once among =
    let count_first : (name : ℕ) → times_in name (e ∷ es) ≡ one_of (e == name) + times_in name es = λ name. sum_by-cons (λ n. one_of (n == name)) e es in
    let self : one_of (e == e) ≡ 1 = ap one_of (eq-eqb e e refl) in
    let apart : (n : ℕ) → (e == n) ≡ true → list_any (λ m. m == n) es ≡ false = λ n is.
    elim (counted (λ m. m == n) es) [
      | inl some ↦ absurd (omega (arith, count_first n, among n, once n, some.1, ap one_of is))
      | inr never ↦ never.0
    ] in
    omega (
      arith,
      count_either (λ n. e == n) (λ n. list_any (λ m. m == n) es) made apart,
      sum_by_alike (λ n. one_of (e == n)) (λ n. one_of (n == e)) made (λ n. swapped e n),
      count_first e,
      self,
      among e,
      once e,
      ended_among made es once (λ name. omega (arith, count_first name, among name)),
    )

-- an ended name was made
ended_was_made : (g : MachineState) → EachNameOnce g → (name : ℕ) → times_in name g.yard.ended ≤ times_in name g.yard.made
ended_was_made g each name =
    elim (counted (λ n. n == name) g.yard.made) [
      | inl some ↦ omega (arith, each name, ap one_of some.0, some.1)
      | inr never ↦ omega (arith, each name, ap one_of never.0)
    ]

alive_by : (y : Yard) → ((name : ℕ) → times_in name y.made ≤ 1) → ((name : ℕ) → times_in name y.ended ≤ times_in name y.made) → live_count y ≡ names_alive y
alive_by y once among = omega (arith, ended_among y.made y.ended once among, count_other (λ n. list_any (λ m. m == n) y.ended) y.made)

pub live_are_made : (setup : SetupParts) (history : List Entry) (g : MachineState) → GRun setup history g → live_count g.yard ≡ names_alive g.yard
live_are_made setup history g run =
    alive_by g.yard
    (run_made_once setup (empty_machine setup) history g (empty_sound setup) (λ name. omega arith) run)
    (ended_was_made g (reached setup history g run).once)
