-- How many names that pass a test stand in the places of the machine.
use Rattle.std.proofs.Common.{◌≡◌, ℕ, ◌+◌, ◌<◌, ◌==◌, Bool, false, not, cond, Contains, List, [], ◌∷◌, count_by, length, map, sum_by, Option, Some, None, refl, ap, ◌∙◌, subst, inl, inr, arith, eq-eqb, ne_eqb}
use Rattle.std.proofs.lemmas.Bool.{cond-false, cond-true}
use Rattle.std.proofs.lemmas.List.Sums.{sum_by-cons, sum_by-set}
use Rattle.sched_base.specs.declared.Facts.{Facts}
use Rattle.flat_policy.specs.Policy.Machine.{MachineState, Hand, Sleeper, Yard, count_held, count_in_yard, count_queued, flat_at, hand_at, holds, no_hand, place_count, with_flat, with_hand, with_yard}
use Rattle.flat_policy.specs.Policy.Moves.{without}
use Rattle.flat_policy.specs.Policy.Queue.{Flat, Queued, empty_flat}
use Rattle.flat_policy.specs.Policy.WellFormed.{ArrivalsRise, EachQueued}
use Rattle.flat_policy.proofs.Entries.{each_member}
use Rattle.flat_policy.proofs.Members.{contains_cases, contains_none}

-- how many names of each place pass a test
abbrev pub queued_by : (ℕ → Bool) → Flat → ℕ
queued_by p s = count_by (λ (e : Queued). p e.facts.name) s.entries

abbrev pub passes : (ℕ → Bool) → Option Facts → Bool
passes p None = false
passes p (Some t) = p t.name

abbrev pub held_by_test : (ℕ → Bool) → Hand → ℕ
held_by_test p h = cond (passes p h.thread) 1 0

abbrev pub yard_by : (ℕ → Bool) → Yard → ℕ
yard_by p y = count_by (λ (w : Sleeper). p w.facts.name) y.blocked + count_by (λ n. p n) y.ended

abbrev pub placed : (ℕ → Bool) → MachineState → ℕ
placed p g = sum_by (queued_by p) g.flats + sum_by (held_by_test p) g.hands + yard_by p g.yard

-- the count of one name is the count of the test for it
pub sum_by_alike : {X : Type 0} (f g : X → ℕ) (xs : List X) → ((x : X) → f x ≡ g x) → sum_by f xs ≡ sum_by g xs
sum_by_alike f g [] h = refl
sum_by_alike f g (x ∷ xs) h = omega (arith, sum_by-cons f x xs, sum_by-cons g x xs, h x, sum_by_alike f g xs h)

held_alike : (name : ℕ) (t : Option Facts) → holds name t ≡ passes (λ n. n == name) t
held_alike name None = refl
held_alike name (Some t) = refl

pub placed_name : (g : MachineState) (name : ℕ) → place_count g name ≡ placed (λ n. n == name) g
placed_name g name =
    ap (λ m. sum_by (count_queued name) g.flats + m + count_in_yard name g.yard)
    (sum_by_alike (count_held name) (held_by_test (λ n. n == name)) g.hands (λ (h : Hand). ap (λ b. cond b 1 0) (held_alike name h.thread)))

-- one hand and one queue change, or one hand and the yard
pub placed_hand_flat : (p : ℕ → Bool) (g : MachineState) (a c : ℕ) (h : Hand) (s : Flat) → a < length g.hands → c < length g.flats
    → placed p (with_hand a h (with_flat c s g)) + (queued_by p (flat_at g c) + held_by_test p (hand_at g a)) ≡ placed p g + (queued_by p s + held_by_test p h)
placed_hand_flat p g a c h s ain cin =
    omega (arith, sum_by-set (queued_by p) g.flats c s (empty_flat 0) cin, sum_by-set (held_by_test p) g.hands a h no_hand ain)

pub placed_hand_yard : (p : ℕ → Bool) (g : MachineState) (a : ℕ) (h : Hand) (y : Yard) → a < length g.hands
    → placed p (with_hand a h (with_yard y g)) + (yard_by p g.yard + held_by_test p (hand_at g a)) ≡ placed p g + (yard_by p y + held_by_test p h)
placed_hand_yard p g a h y ain =
    omega (arith, sum_by-set (held_by_test p) g.hands a h no_hand ain)

-- what an entry counts leaves with it, and nothing else does
nothing_leaves : (arrival : ℕ) (es : List Queued) → EachQueued (λ (f : Queued). arrival < f.arrival) es → without arrival es ≡ es
nothing_leaves arrival [] each = refl
nothing_leaves arrival (e ∷ es) each =
    cond-true (not (e.arrival == arrival)) (e ∷ without arrival es) (without arrival es) (ap not (ne_eqb e.arrival arrival (λ is. omega (arith, is, each.0))))
    ∙ ap (λ fs. e ∷ fs) (nothing_leaves arrival es each.1)

pub leaves_sum : (f : Queued → ℕ) (es : List Queued) → ArrivalsRise es → (e : Queued) → Contains es e → sum_by f (without e.arrival es) + f e ≡ sum_by f es
leaves_sum f [] rise e c = absurd (contains_none e c)
leaves_sum f (x ∷ xs) rise e c =
    elim (contains_cases x xs e c) [
      | inl is ↦ subst (λ (q : Queued). sum_by f (without q.arrival (x ∷ xs)) + f q ≡ sum_by f (x ∷ xs)) is
          (omega (
            arith,
            sum_by-cons f x xs,
            ap (sum_by f) (cond-false (not (x.arrival == x.arrival)) (x ∷ without x.arrival xs) (without x.arrival xs) (ap not (eq-eqb x.arrival x.arrival refl)) ∙ nothing_leaves x.arrival xs rise.0),
          ))
      | inr d ↦ (
          let kept : without e.arrival (x ∷ xs) ≡ x ∷ without e.arrival xs =
          cond-true (not (x.arrival == e.arrival)) (x ∷ without e.arrival xs) (without e.arrival xs)
          (ap not (ne_eqb x.arrival e.arrival (λ is. omega (arith, is, each_member (λ (g : Queued). x.arrival < g.arrival) xs rise.0 e d)))) in
          omega (arith, sum_by-cons f x xs, sum_by-cons f x (without e.arrival xs), ap (sum_by f) kept, leaves_sum f xs rise.1 e d))
    ]

pub sum_by_map : {X : Type 0} (f : X → ℕ) (h : X → X) (xs : List X) → ((x : X) → f (h x) ≡ f x) → sum_by f (map h xs) ≡ sum_by f xs
sum_by_map f h [] same = refl
sum_by_map f h (x ∷ xs) same = omega (arith, sum_by-cons f (h x) (map h xs), sum_by-cons f x xs, same x, sum_by_map f h xs same)
