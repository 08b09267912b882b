-- Steps at the yard: making, sleeping, waking, ending, and counting the blocked threads.
use Rattle.std.proofs.Common.{◌≡◌, ℕ, ◌+◌, ◌-◌, ◌<◌, ◌≤◌, ◌==◌, Bool, true, false, not, cond, Contains, List, [], ◌∷◌, ◌++◌, count_by, filter, length, sum_by, Option, Some, None, refl, sym, ap, ◌∙◌, subst, inl, inr, arith, append-nil, eq-eqb}
use Rattle.std.specs.List.{list_any}
use Rattle.std.proofs.lemmas.Bool.{cases_Bool, cond-false, cond-true, false≢true}
use Rattle.std.proofs.lemmas.List.{length-replicate, length_push}
use Rattle.std.proofs.lemmas.List.Elements.{Contains-push_cases}
use Rattle.std.proofs.lemmas.List.Sums.{sum_by-cons, sum_by_push}
use Rattle.std.proofs.lemmas.Option.{same_Some}
use Rattle.sched_base.specs.Facts.{rested}
use Rattle.sched_base.specs.Limits.{moment_limit}
use Rattle.sched_base.specs.declared.Facts.{Facts}
use Rattle.flat_policy.specs.Policy.Threads.{ThreadFits}
use Rattle.flat_policy.specs.Laws.Sound.{HandFits, Sound}
use Rattle.flat_policy.specs.Policy.Machine.{MachineState, Sleeper, blocked_outcome, empty_hand, end_outcome, filled_hand, hand_at, kept_hand, make_outcome, sleep_outcome, sleeper_of, sleepers_without, wake_outcome}
use Rattle.flat_policy.specs.Policy.Setup.{SetupParts, actor_count, cluster_count}
use Rattle.flat_policy.proofs.HandMoves.{kept_fits}
use Rattle.flat_policy.proofs.Members.{contains_cases, contains_none, find_finds, member_of_filter}
use Rattle.flat_policy.proofs.Placed.{passes, placed}
use Rattle.flat_policy.proofs.SoundParts.{Goes, empty_hand_fits, goes_nowhere, goes_yard}

filled_fits : (setup : SetupParts) (t : Facts) (now : ℕ) → now < moment_limit → ThreadFits setup t → HandFits setup (filled_hand setup t now)
filled_fits setup t now soon fit = record {
  thread = λ u e. subst (ThreadFits setup) (same_Some t u e) fit;
  looks = length-replicate (cluster_count setup) None;
  last = soon;
}

counts_one : (b : Bool) → b ≡ true → ◌≡◌ {A = ℕ} (cond b 1 0) 1
counts_one b e = ap {B = ℕ} (λ c. cond c 1 0) e

-- the one that passes a test leaves with what it counts, where no more than one passes
one_passes : {X : Type 0} (q : X → Bool) (xs : List X) (w : X) → Contains xs w → q w ≡ true → 1 ≤ count_by q xs
one_passes q [] w c h = absurd (contains_none w c)
one_passes q (x ∷ xs) w c h =
    elim (contains_cases x xs w c) [
      | inl is ↦ (let one = counts_one (q x) (ap q is ∙ h) in omega (arith, one, sum_by-cons (λ y. cond (q y) 1 0) x xs))
      | inr d ↦ omega (arith, one_passes q xs w d h, sum_by-cons (λ y. cond (q y) 1 0) x xs)
    ]

none_leaves : {X : Type 0} (q : X → Bool) (xs : List X) → count_by q xs ≡ 0 → filter (λ x. not (q x)) xs ≡ xs
none_leaves q [] h = refl
none_leaves q (x ∷ xs) h =
    elim (cases_Bool (q x)) [
      | inl e ↦ (let one = counts_one (q x) e in absurd (omega (arith, one, h, sum_by-cons (λ y. cond (q y) 1 0) x xs)))
      | inr e ↦ (
          let rest : count_by q xs ≡ 0 = omega (arith, h, sum_by-cons (λ y. cond (q y) 1 0) x xs) in
          cond-true (not (q x)) (x ∷ filter (λ y. not (q y)) xs) (filter (λ y. not (q y)) xs) (ap not e) ∙ ap (λ ys. x ∷ ys) (none_leaves q xs rest))
    ]

pub one_leaves : {X : Type 0} (f : X → ℕ) (q : X → Bool) (xs : List X) (w : X) → Contains xs w → q w ≡ true → count_by q xs ≤ 1 → sum_by f (filter (λ x. not (q x)) xs) + f w ≡ sum_by f xs
one_leaves f q [] w c h few = absurd (contains_none w c)
one_leaves f q (x ∷ xs) w c h few =
    elim (cases_Bool (q x)) [
      | inl e ↦ (
          let one = counts_one (q x) e in
          let none : count_by q xs ≡ 0 = omega (arith, one, few, sum_by-cons (λ y. cond (q y) 1 0) x xs) in
          let gone : filter (λ y. not (q y)) (x ∷ xs) ≡ xs = cond-false (not (q x)) (x ∷ filter (λ y. not (q y)) xs) (filter (λ y. not (q y)) xs) (ap not e) ∙ none_leaves q xs none in
          elim (contains_cases x xs w c) [
            | inl is ↦ omega (arith, ap (sum_by f) gone, ap f is, sum_by-cons f x xs)
            | inr d ↦ absurd (omega (arith, one_passes q xs w d h, none))
          ])
      | inr e ↦ (
          let kept = cond-true (not (q x)) (x ∷ filter (λ y. not (q y)) xs) (filter (λ y. not (q y)) xs) (ap not e) in
          elim (contains_cases x xs w c) [
            | inl is ↦ absurd (false≢true (sym e ∙ (ap q is ∙ h)))
            | inr d ↦ omega (
              arith,
              ap (sum_by f) kept,
              sum_by-cons f x xs,
              sum_by-cons f x (filter (λ y. not (q y)) xs),
              one_leaves f q xs w d h (omega (arith, few, sum_by-cons (λ y. cond (q y) 1 0) x xs)),
            )
          ])
    ]

pub make_goes : (setup : SetupParts) (g : MachineState) (a now : ℕ) (t : Facts) → Sound setup g → a < actor_count setup → now < moment_limit → (hand_at g a).thread ≡ None → ThreadFits setup t → list_any (λ n. n == t.name) g.yard.made ≡ false → length g.yard.made - length g.yard.ended < setup.threads → Goes setup g (make_outcome setup g a now t).state
make_goes setup g a now t sound ain soon empty fit fresh room =
    goes_yard setup g a (filled_hand setup t now) (record g.yard { made = g.yard.made ++ t.name ∷ []; last = now }) (t.name ∷ []) sound ain
    (filled_fits setup t now soon fit) (record { blocked = sound.yard.blocked; last = soon }) refl
    (λ once p. omega (arith, ap {B = ℕ} (λ u. cond (passes p u) 1 0) empty))
    (inr (t.name, refl, fresh))
    (λ h. omega (arith, room, length_push g.yard.made t.name))

pub sleep_goes : (setup : SetupParts) (g : MachineState) (a now : ℕ) → Sound setup g → a < actor_count setup → now < moment_limit → (o : Option Facts) → (hand_at g a).thread ≡ o → Goes setup g (sleep_outcome setup g a now o).state
sleep_goes setup g a now sound ain soon None e = goes_nowhere setup g sound
sleep_goes setup g a now sound ain soon (Some t) e =
    let w : Sleeper = record { facts = t; since = now } in
    goes_yard setup g a (empty_hand setup now) (record g.yard { blocked = g.yard.blocked ++ w ∷ []; last = now }) [] sound ain
    (empty_hand_fits setup now soon)
    (record {
      blocked = λ v c. elim (Contains-push_cases g.yard.blocked w v c) [
        | inl d ↦ sound.yard.blocked v d
        | inr is ↦ subst (λ (u : Sleeper). ThreadFits setup u.facts) is ((sound.hands a ain).thread t e)
      ];
      last = soon;
    })
    (sym (append-nil g.yard.made))
    (λ once p. omega (arith, ap {B = ℕ} (λ u. cond (passes p u) 1 0) e, sum_by_push (λ (v : Sleeper). cond (p v.facts.name) 1 0) g.yard.blocked w))
    (inl refl) (λ h. h)

rested_fits : (setup : SetupParts) (span : ℕ) (t : Facts) → ThreadFits setup t → ThreadFits setup (rested span t)
rested_fits setup span t fit = record {
  group = fit.group;
  base = fit.base;
  bound = fit.bound;
  prefer = fit.prefer;
  name = fit.name;
  usage = fit.usage;
  pending_ran = fit.pending_ran;
  pending_blocked = omega arith;
}

-- a name that stands in one place at most is blocked once at most
blocked_once : (g : MachineState) (name : ℕ) → placed (λ n. n == name) g ≤ 1 → count_by (λ (w : Sleeper). w.facts.name == name) g.yard.blocked ≤ 1
blocked_once g name h = omega (arith, h)

pub wake_goes : (setup : SetupParts) (g : MachineState) (a now name : ℕ) → Sound setup g → a < actor_count setup → now < moment_limit → (hand_at g a).thread ≡ None → (o : Option Sleeper) → sleeper_of g.yard name ≡ o → Goes setup g (wake_outcome setup g a now o).state
wake_goes setup g a now name sound ain soon empty None e = goes_nowhere setup g sound
wake_goes setup g a now name sound ain soon empty (Some w) e =
    let found = find_finds (λ (v : Sleeper). v.facts.name == name) g.yard.blocked w e in
    let t : Facts = rested (now - w.since) w.facts in
    goes_yard setup g a (filled_hand setup t now) (record g.yard { blocked = sleepers_without t.name g.yard.blocked; last = now }) [] sound ain
    (filled_fits setup t now soon (rested_fits setup (now - w.since) w.facts (sound.yard.blocked w found.0)))
    (record {
      blocked = λ v c. sound.yard.blocked v (member_of_filter (λ (u : Sleeper). not (u.facts.name == w.facts.name)) g.yard.blocked v c).0;
      last = soon;
    })
    (sym (append-nil g.yard.made))
    (λ once p. omega (
      arith,
      ap {B = ℕ} (λ u. cond (passes p u) 1 0) empty,
      one_leaves (λ (v : Sleeper). cond (p v.facts.name) 1 0) (λ (v : Sleeper). v.facts.name == w.facts.name) g.yard.blocked w found.0
          (eq-eqb w.facts.name w.facts.name refl) (blocked_once g w.facts.name (once w.facts.name)),
    ))
    (inl refl) (λ h. h)

pub end_goes : (setup : SetupParts) (g : MachineState) (a now : ℕ) → Sound setup g → a < actor_count setup → now < moment_limit → (o : Option Facts) → (hand_at g a).thread ≡ o → Goes setup g (end_outcome setup g a now o).state
end_goes setup g a now sound ain soon None e = goes_nowhere setup g sound
end_goes setup g a now sound ain soon (Some t) e =
    goes_yard setup g a (empty_hand setup now) (record g.yard { ended = g.yard.ended ++ t.name ∷ []; last = now }) [] sound ain
    (empty_hand_fits setup now soon) (record { blocked = sound.yard.blocked; last = soon }) (sym (append-nil g.yard.made))
    (λ once p. omega (arith, ap {B = ℕ} (λ u. cond (passes p u) 1 0) e, sum_by_push (λ n. cond (p n) 1 0) g.yard.ended t.name))
    (inl refl) (λ h. omega (arith, h, length_push g.yard.ended t.name))

pub blocked_goes : (setup : SetupParts) (g : MachineState) (a now : ℕ) → Sound setup g → a < actor_count setup → now < moment_limit → Goes setup g (blocked_outcome g a (hand_at g a) now).state
blocked_goes setup g a now sound ain soon =
    goes_yard setup g a (kept_hand (hand_at g a) now) (record g.yard { last = now }) [] sound ain
    (kept_fits setup (hand_at g a) now soon (sound.hands a ain))
    (record { blocked = sound.yard.blocked; last = soon }) (sym (append-nil g.yard.made)) (λ once p. omega arith) (inl refl) (λ h. h)
