-- Where a name stands is the place that is told of it.
use Rattle.std.proofs.Common.{◌≡◌, ℕ, zero, suc, ◌+◌, ◌≤◌, ◌<◌, ◌==◌, List, [], ◌∷◌, count_by, get_or, length, sum_by, unwrap_or, refl, ap, ◌∙◌, inl, inr, arith, cond}
use Rattle.std.specs.List.{list_any}
use Rattle.std.proofs.lemmas.Bool.{cases_lt, cond-false, cond-true}
use Rattle.std.proofs.lemmas.List.{get_or_past}
use Rattle.std.proofs.lemmas.List.Sums.{get_or-le-sum_by, sum_by-cons}
use Rattle.sched_base.specs.declared.Place.{Place}
use Rattle.sched_base.specs.declared.Place.TheVariants as places
use Rattle.flat_policy.specs.Policy.Machine.{MachineState, Sleeper, count_at, count_held, count_queued, hand_at, held_by, flat_at, in_yard, is_blocked, no_hand, place_count, place_of}
use Rattle.flat_policy.specs.Policy.Queue.{empty_flat}
use Rattle.flat_policy.proofs.PlaceOf.{counted, hand_of, queue_of}

-- what two members count is within the sum
two_within : {X : Type 0} (f : X → ℕ) (xs : List X) (i j : ℕ) (d : X) → i < j → j < length xs → f (get_or xs i d) + f (get_or xs j d) ≤ sum_by f xs
two_within f [] i j d before within = absurd (omega (arith, within))
two_within f (x ∷ xs) i zero d before within = absurd (omega (arith, before))
two_within f (x ∷ xs) zero (suc j) d before within = omega (arith, sum_by-cons f x xs, get_or-le-sum_by f xs j d (omega (arith, within)))
two_within f (x ∷ xs) (suc i) (suc j) d before within = omega (arith, sum_by-cons f x xs, two_within f xs i j d (omega (arith, before)) (omega (arith, within)))

-- a member that counts is there
is_there : {X : Type 0} (f : X → ℕ) (xs : List X) (k : ℕ) (d : X) → f d ≡ 0 → 1 ≤ f (get_or xs k d) → k < length xs
is_there f xs k d none some =
    elim (cases_lt k (length xs)) [
      | inl within ↦ within
      | inr past ↦ absurd (omega (arith, none, some, ap f (get_or_past xs k d past)))
    ]

-- where the sum is 1 at most, one member alone counts
only_one : {X : Type 0} (f : X → ℕ) (xs : List X) (i j : ℕ) (d : X) → f d ≡ 0 → sum_by f xs ≤ 1 → 1 ≤ f (get_or xs i d) → 1 ≤ f (get_or xs j d) → i ≡ j
only_one f xs i j d none few at_i at_j =
    elim (cases_lt i j) [
      | inl before ↦ absurd (omega (arith, few, at_i, at_j, two_within f xs i j d before (is_there f xs j d none at_j)))
      | inr after ↦ elim (cases_lt j i) [
        | inl behind ↦ absurd (omega (arith, few, at_i, at_j, two_within f xs j i d behind (is_there f xs i d none at_i)))
        | inr both ↦ omega (arith, after, both)
      ]
    ]

-- the place of a name that stands in no queue
after_queues : (g : MachineState) (name : ℕ) → sum_by (count_queued name) g.flats ≡ 0 → place_of g name ≡ unwrap_or (held_by g.hands 0 name) (in_yard g.yard name)
after_queues g name none =
    elim (queue_of g.flats 0 name) [
      | inl absent ↦ ap (λ o. unwrap_or o (unwrap_or (held_by g.hands 0 name) (in_yard g.yard name))) absent.0
      | inr there ↦ absurd (omega (arith, none, there.5, get_or-le-sum_by (count_queued name) g.flats there.0 (empty_flat 0) there.3))
    ]

-- the place of a name that stands in no queue and in no hand
after_hands : (g : MachineState) (name : ℕ) → sum_by (count_queued name) g.flats ≡ 0 → sum_by (count_held name) g.hands ≡ 0 → place_of g name ≡ in_yard g.yard name
after_hands g name flats hands =
    after_queues g name flats
    ∙ elim (hand_of g.hands 0 name) [
      | inl empty ↦ ap (λ o. unwrap_or o (in_yard g.yard name)) empty.0
      | inr there ↦ absurd (omega (arith, hands, there.5, get_or-le-sum_by (count_held name) g.hands there.0 no_hand there.3))
    ]

-- a name in a queue
where_queued : (g : MachineState) (c name : ℕ) → place_count g name ≤ 1 → 1 ≤ count_queued name (flat_at g c) → place_of g name ≡ places.Queue c
where_queued g c name few some =
    let within = is_there (count_queued name) g.flats c (empty_flat 0) refl some in
    elim (queue_of g.flats 0 name) [
      | inl absent ↦ absurd (omega (arith, some, absent.1, get_or-le-sum_by (count_queued name) g.flats c (empty_flat 0) within))
      | inr there ↦ (
          let same : there.0 ≡ c = only_one (count_queued name) g.flats there.0 c (empty_flat 0) refl (omega (arith, few)) there.5 some in
          ap (λ o. unwrap_or o (unwrap_or (held_by g.hands 0 name) (in_yard g.yard name))) there.4 ∙ ap (λ n. places.Queue n) (omega (arith, there.2, same)))
    ]

-- a name in a hand
where_held : (g : MachineState) (a name : ℕ) → place_count g name ≤ 1 → 1 ≤ count_held name (hand_at g a) → place_of g name ≡ places.Hand a
where_held g a name few some =
    let within = is_there (count_held name) g.hands a no_hand refl some in
    let all = get_or-le-sum_by (count_held name) g.hands a no_hand within in
    after_queues g name (omega (arith, few, some, all))
    ∙ elim (hand_of g.hands 0 name) [
      | inl empty ↦ absurd (omega (arith, some, empty.1, all))
      | inr there ↦ (
          let same : there.0 ≡ a = only_one (count_held name) g.hands there.0 a no_hand refl (omega (arith, few)) there.5 some in
          ap (λ o. unwrap_or o (in_yard g.yard name)) there.4 ∙ ap (λ n. places.Hand n) (omega (arith, there.2, same)))
    ]

-- a blocked name
where_blocked : (g : MachineState) (name : ℕ) → place_count g name ≤ 1 → 1 ≤ count_by (λ (w : Sleeper). w.facts.name == name) g.yard.blocked → place_of g name ≡ places.Blocked
where_blocked g name few some =
    after_hands g name (omega (arith, few, some)) (omega (arith, few, some))
    ∙ elim (counted (λ (w : Sleeper). w.facts.name == name) g.yard.blocked) [
      | inl there ↦ cond-true (is_blocked g.yard name) places.Blocked (cond (list_any (λ n. n == name) g.yard.ended) places.Ended places.Nowhere) there.0
      | inr none ↦ absurd (omega (arith, some, none.1))
    ]

-- an ended name
where_ended : (g : MachineState) (name : ℕ) → place_count g name ≤ 1 → 1 ≤ count_by (λ n. n == name) g.yard.ended → place_of g name ≡ places.Ended
where_ended g name few some =
    after_hands g name (omega (arith, few, some)) (omega (arith, few, some))
    ∙ elim (counted (λ (w : Sleeper). w.facts.name == name) g.yard.blocked) [
      | inl there ↦ absurd (omega (arith, few, some, there.1))
      | inr none ↦ cond-false (is_blocked g.yard name) places.Blocked (cond (list_any (λ n. n == name) g.yard.ended) places.Ended places.Nowhere) none.0
          ∙ elim (counted (λ n. n == name) g.yard.ended) [
            | inl there ↦ cond-true (list_any (λ n. n == name) g.yard.ended) places.Ended places.Nowhere there.0
            | inr never ↦ absurd (omega (arith, some, never.1))
          ]
    ]

pub place_where : (g : MachineState) (p : Place) (name : ℕ) → place_count g name ≤ 1 → 1 ≤ count_at g p name → place_of g name ≡ p
place_where g (places.Queue c) name few some = where_queued g c name few some
place_where g (places.Hand a) name few some = where_held g a name few some
place_where g places.Blocked name few some = where_blocked g name few some
place_where g places.Ended name few some = where_ended g name few some
place_where g places.Nowhere name few some = absurd (omega (arith, some))
