-- Where no hand holds a thread, the threads made are those queued, blocked and ended.
use Rattle.std.proofs.Common.{◌≡◌, ℕ, suc, ◌+◌, ◌<◌, cond, true, List, [], ◌∷◌, Option, None, count_by, length, map, get_or, sum_by, refl, sym, ap, arith}
use Rattle.std.proofs.lemmas.List.{length-map}
use Rattle.std.proofs.lemmas.List.Sums.{sum_by-cons}
use Rattle.sched_base.specs.declared.Entry.{Entry}
use Rattle.sched_base.specs.declared.Facts.{Facts}
use Rattle.flat_policy.specs.declared.journal.Line.{Line}
use Rattle.flat_policy.specs.Policy.Machine.{GRun, Hand, empty_hand}
use Rattle.flat_policy.specs.Policy.Queue.{Flat}
use Rattle.flat_policy.specs.Policy.Setup.{SetupParts}
use Rattle.flat_policy.specs.Runs.Hands.{hand_after_all}
use Rattle.flat_policy.specs.Runs.Histories.{RunYard}
use Rattle.flat_policy.proofs.Placed.{held_by_test, passes, queued_by, sum_by_alike}
use Rattle.flat_policy.proofs.Runs.{reached}
use Rattle.composition.specs.Joined.{hands_left, machine_of, without_due}

count_all : {X : Type 0} (xs : List X) → count_by (λ x. true) xs ≡ length xs
count_all [] = refl
count_all (x ∷ xs) = omega (arith, sum_by-cons (λ y. 1) x xs, count_all xs)

-- hands that hold nothing count nothing
none_held : (setup : SetupParts) (logs : List (List Line)) → ((a : ℕ) → a < length logs → (hand_after_all setup (empty_hand setup 0) (get_or logs a [])).thread ≡ None) → sum_by (held_by_test (λ n. true)) (hands_left setup logs) ≡ 0
none_held setup [] empty = refl
none_held setup (l ∷ ls) empty =
    let h : Hand = hand_after_all setup (empty_hand setup 0) l in
    let here : held_by_test (λ n. true) h ≡ 0 = ap (λ (o : Option Facts). cond (passes (λ n. true) o) 1 0) (empty 0 (omega arith)) in
    let rest = none_held setup ls (λ a below. empty (suc a) (omega arith)) in
    omega (arith, sum_by-cons (held_by_test (λ n. true)) h (hands_left setup ls), here, rest)

pub totals : (setup : SetupParts) (logs : List (List Line)) (flats : List Flat) (end : RunYard) (es : List Entry) → GRun setup es (machine_of flats (hands_left setup logs) end)
    → ((a : ℕ) → a < length logs → (hand_after_all setup (empty_hand setup 0) (get_or logs a [])).thread ≡ None)
    → sum_by (λ (s : Flat). length s.entries) flats + length end.blocked + length end.ended ≡ length end.made
totals setup logs flats end es run empty =
    omega (
      arith,
      (reached setup es (machine_of flats (hands_left setup logs) end) run).total,
      none_held setup logs empty,
      sum_by_alike (λ (s : Flat). length s.entries) (queued_by (λ n. true)) flats (λ (s : Flat). sym (count_all s.entries)),
      count_all (map without_due end.blocked),
      length-map end.blocked without_due,
      count_all end.ended,
    )
