-- In which place a name stands, and the one that is told of it.
use Rattle.std.proofs.Common.{◌≡◌, ◌⊎◌, ℕ, suc, ◌||◌, ◌+◌, ◌≤◌, ◌<◌, ◌==◌, Bool, true, false, List, [], ◌∷◌, count_by, find, get_or, length, sum_by, Some, None, is_some, unwrap_or, refl, sym, ap, ◌∙◌, subst, inl, inr, arith, cond}
use Rattle.std.specs.List.{list_any}
use Rattle.std.proofs.lemmas.Bool.{cases_Bool, cond-false, cond-true}
use Rattle.std.proofs.lemmas.List.Sums.{get_or-le-sum_by, sum_by-cons}
use Rattle.sched_base.specs.declared.Place.TheVariants as places
use Rattle.flat_policy.specs.Policy.ClusterSteps.{named_entry}
use Rattle.flat_policy.specs.Policy.Machine.{Hand, MachineState, Sleeper, Yard, count_at, count_held, count_queued, held_by, holds, in_yard, is_blocked, no_hand, place_count, place_of, queued_in}
use Rattle.flat_policy.specs.Policy.Queue.{Flat, Queued, empty_flat}

-- members that pass a test are counted where there are some, and found
pub counted : {X : Type 0} (p : X → Bool) (xs : List X) → ((list_any p xs ≡ true) × (1 ≤ count_by p xs)) ⊎ ((list_any p xs ≡ false) × (count_by p xs ≡ 0))
counted p [] = inr (refl, refl)
counted p (x ∷ xs) =
    elim (cases_Bool (p x)) [
      | inl e ↦ inl (ap (λ b. b || list_any p xs) e, omega (arith, sum_by-cons (λ y. cond (p y) 1 0) x xs, ap {B = ℕ} (λ b. cond b 1 0) e))
      | inr e ↦ elim (counted p xs) [
        | inl some ↦ inl (ap (λ b. b || list_any p xs) e ∙ some.0, omega (arith, sum_by-cons (λ y. cond (p y) 1 0) x xs, some.1))
        | inr none ↦ inr (ap (λ b. b || list_any p xs) e ∙ none.0, omega (arith, sum_by-cons (λ y. cond (p y) 1 0) x xs, ap {B = ℕ} (λ b. cond b 1 0) e, none.1))
      ]
    ]

found_counted : {X : Type 0} (p : X → Bool) (xs : List X) → is_some (find p xs) ≡ list_any p xs
found_counted p [] = refl
found_counted p (x ∷ xs) =
    elim (cases_Bool (p x)) [
      | inl e ↦ ap is_some (cond-true (p x) (Some x) (find p xs) e) ∙ sym (ap (λ b. b || list_any p xs) e)
      | inr e ↦ ap is_some (cond-false (p x) (Some x) (find p xs) e) ∙ (found_counted p xs ∙ sym (ap (λ b. b || list_any p xs) e))
    ]

-- a name is told of the queues by the first that has it, or none has it
abbrev pub InQueues : List Flat → ℕ → ℕ → Type 0
InQueues ss c name =
    ((queued_in ss c name ≡ None) × (sum_by (count_queued name) ss ≡ 0))
    ⊎ ((k : ℕ) × (n : ℕ) × (n ≡ c + k) × (k < length ss) × (queued_in ss c name ≡ Some (places.Queue n)) × (1 ≤ count_queued name (get_or ss k (empty_flat 0))))

pub queue_of : (ss : List Flat) (c name : ℕ) → InQueues ss c name
queue_of [] c name = inl (refl, refl)
queue_of (s ∷ ss) c name =
    elim (counted (λ (e : Queued). e.facts.name == name) s.entries) [
      | inl some ↦ inr (
        0,
        c,
        omega arith,
        omega arith,
        cond-true (is_some (named_entry s name)) (Some (places.Queue c)) (queued_in ss (c + 1) name) (found_counted (λ (e : Queued). e.facts.name == name) s.entries ∙ some.0),
        some.1,
      )
      | inr none ↦ (
          let past : queued_in (s ∷ ss) c name ≡ queued_in ss (c + 1) name =
          cond-false (is_some (named_entry s name)) (Some (places.Queue c)) (queued_in ss (c + 1) name) (found_counted (λ (e : Queued). e.facts.name == name) s.entries ∙ none.0) in
          elim (queue_of ss (c + 1) name) [
            | inl absent ↦ inl (past ∙ absent.0, omega (arith, sum_by-cons (count_queued name) s ss, none.1, absent.1))
            | inr there ↦ inr (suc there.0, there.1, omega (arith, there.2), omega (arith, there.3), past ∙ there.4, there.5)
          ])
    ]

-- and so of the hands
abbrev pub InHands : List Hand → ℕ → ℕ → Type 0
InHands hs a name =
    ((held_by hs a name ≡ None) × (sum_by (count_held name) hs ≡ 0))
    ⊎ ((k : ℕ) × (n : ℕ) × (n ≡ a + k) × (k < length hs) × (held_by hs a name ≡ Some (places.Hand n)) × (1 ≤ count_held name (get_or hs k no_hand)))

pub hand_of : (hs : List Hand) (a name : ℕ) → InHands hs a name
hand_of [] a name = inl (refl, refl)
hand_of (h ∷ hs) a name =
    elim (cases_Bool (holds name h.thread)) [
      | inl e ↦ inr (
        0,
        a,
        omega arith,
        omega arith,
        cond-true (holds name h.thread) (Some (places.Hand a)) (held_by hs (a + 1) name) e,
        omega (arith, ap {B = ℕ} (λ b. cond b 1 0) e),
      )
      | inr e ↦ (
          let past : held_by (h ∷ hs) a name ≡ held_by hs (a + 1) name = cond-false (holds name h.thread) (Some (places.Hand a)) (held_by hs (a + 1) name) e in
          elim (hand_of hs (a + 1) name) [
            | inl absent ↦ inl (past ∙ absent.0, omega (arith, sum_by-cons (count_held name) h hs, ap {B = ℕ} (λ b. cond b 1 0) e, absent.1))
            | inr there ↦ inr (suc there.0, there.1, omega (arith, there.2), omega (arith, there.3), past ∙ there.4, there.5)
          ])
    ]

-- the place of a name that stands in no queue and no hand
yard_place : (g : MachineState) (name : ℕ) → place_count g name ≤ 1 → sum_by (count_queued name) g.flats ≡ 0 → sum_by (count_held name) g.hands ≡ 0 → count_at g (in_yard g.yard name) name ≡ place_count g name
yard_place g name few flats hands =
    let y : Yard = g.yard in
    elim (counted (λ (w : Sleeper). w.facts.name == name) y.blocked) [
      | inl some ↦ subst (λ p. count_at g p name ≡ place_count g name) (sym (cond-true (is_blocked y name) places.Blocked (cond (list_any (λ n. n == name) y.ended) places.Ended places.Nowhere) some.0))
          (omega (arith, some.1, few))
      | inr none ↦ subst (λ p. count_at g p name ≡ place_count g name) (sym (cond-false (is_blocked y name) places.Blocked (cond (list_any (λ n. n == name) y.ended) places.Ended places.Nowhere) none.0))
          (elim (counted (λ n. n == name) y.ended) [
            | inl some ↦ subst (λ p. count_at g p name ≡ place_count g name) (sym (cond-true (list_any (λ n. n == name) y.ended) places.Ended places.Nowhere some.0))
                (omega (arith, some.1, few))
            | inr never ↦ subst (λ p. count_at g p name ≡ place_count g name) (sym (cond-false (list_any (λ n. n == name) y.ended) places.Ended places.Nowhere never.0))
                (omega (arith, none.1, never.1, flats, hands))
          ])
    ]

pub place_is : (g : MachineState) (name : ℕ) → place_count g name ≤ 1 → count_at g (place_of g name) name ≡ place_count g name
place_is g name few =
    elim (queue_of g.flats 0 name) [
      | inr there ↦ (
          let is : there.1 ≡ there.0 = omega (arith, there.2) in
          subst (λ p. count_at g p name ≡ place_count g name)
          (sym (ap (λ o. unwrap_or o (unwrap_or (held_by g.hands 0 name) (in_yard g.yard name))) there.4))
          (subst (λ n. count_at g (places.Queue n) name ≡ place_count g name) (sym is)
          (omega (arith, there.5, few, get_or-le-sum_by (count_queued name) g.flats there.0 (empty_flat 0) there.3))))
      | inl absent ↦ subst (λ p. count_at g p name ≡ place_count g name)
          (sym (ap (λ o. unwrap_or o (unwrap_or (held_by g.hands 0 name) (in_yard g.yard name))) absent.0))
          (elim (hand_of g.hands 0 name) [
            | inr there ↦ (
                let is : there.1 ≡ there.0 = omega (arith, there.2) in
                subst (λ p. count_at g p name ≡ place_count g name)
                (sym (ap (λ o. unwrap_or o (in_yard g.yard name)) there.4))
                (subst (λ n. count_at g (places.Hand n) name ≡ place_count g name) (sym is)
                (omega (arith, there.5, few, get_or-le-sum_by (count_held name) g.hands there.0 no_hand there.3))))
            | inl empty ↦ subst (λ p. count_at g p name ≡ place_count g name)
                (sym (ap (λ o. unwrap_or o (in_yard g.yard name)) empty.0))
                (yard_place g name few absent.1 empty.1)
          ])
    ]
