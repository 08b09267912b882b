-- Whole runs: sound states, each name in one place, and no more threads than the setup allows.
use Rattle.std.proofs.Common.{◌≡◌, ◌⊎◌, ℕ, ◌+◌, ◌≤◌, ◌==◌, Bool, true, false, ◌||◌, cond, List, [], ◌∷◌, ◌++◌, count_by, length, sum_by, refl, sym, ap, ◌∙◌, subst, inl, inr, arith, eqb-true, append-nil}
use Rattle.std.specs.List.{list_any}
use Rattle.std.proofs.lemmas.Bool.{false≢true}
use Rattle.std.proofs.lemmas.List.{get_or-replicate, length-append, length-replicate}
use Rattle.std.proofs.lemmas.List.Folds.{list_any-append, sum_by-replicate}
use Rattle.std.proofs.lemmas.List.Sums.{get_or-le-sum_by, sum_by-cons}
use Rattle.sched_base.specs.declared.Entry.{Entry}
use Rattle.sched_base.specs.declared.Step.{Step}
use Rattle.flat_policy.specs.Laws.Counts.{EachNameOnce, StaysWithin}
use Rattle.flat_policy.specs.Laws.Sound.{FlatFits, HandFits, Sound}
use Rattle.flat_policy.specs.Policy.Machine.{GRun, MachineState, RunsFrom, empty_machine, empty_hand, expected_count, fits_step, flat_at, live_count, no_hand, state_after}
use Rattle.flat_policy.specs.Policy.Queue.{Flat, empty_flat}
use Rattle.flat_policy.specs.Policy.Setup.{SetupParts, actor_count, cluster_count, group_count}
use Rattle.flat_policy.proofs.Accepted.{step_goes}
use Rattle.flat_policy.proofs.Members.{contains_none}
use Rattle.flat_policy.proofs.Parts.{well_formed_from}
use Rattle.flat_policy.proofs.Placed.{held_by_test, placed, placed_name, queued_by, sum_by_alike}
use Rattle.flat_policy.proofs.SoundParts.{Goes, OncePlaced, empty_hand_fits, flat_fits, flat_parts}
use Rattle.flat_policy.proofs.StepsKeep.{empty_parts}

-- the state before any step
pub empty_sound : (setup : SetupParts) → Sound setup (empty_machine setup)
empty_sound setup = record {
  flats_length = length-replicate (cluster_count setup) (empty_flat (group_count setup));
  hands_length = length-replicate (actor_count setup) (empty_hand setup 0);
  flats = λ c h. subst (FlatFits setup) (sym (get_or-replicate (cluster_count setup) c (empty_flat (group_count setup)) (empty_flat 0) h))
      (flat_fits setup (empty_flat (group_count setup)) (empty_parts (group_count setup)) tt (omega arith));
  hands = λ a h. subst (HandFits setup) (sym (get_or-replicate (actor_count setup) a (empty_hand setup 0) no_hand h)) (empty_hand_fits setup 0 (omega arith));
  yard = record { blocked = λ w c. absurd (contains_none w c); last = omega arith };
}

empty_placed : (setup : SetupParts) (p : ℕ → Bool) → placed p (empty_machine setup) ≡ 0
empty_placed setup p =
    omega (
      arith,
      sum_by-replicate (queued_by p) (cluster_count setup) (empty_flat (group_count setup)),
      sum_by-replicate (held_by_test p) (actor_count setup) (empty_hand setup 0),
    )

empty_once : (setup : SetupParts) → EachNameOnce (empty_machine setup)
empty_once setup = λ name. placed_name (empty_machine setup) name ∙ empty_placed setup (λ n. n == name)

-- a name made once is expected once more
abbrev one_of : Bool → ℕ
one_of b = cond b 1 0

add_fresh : (a b c : Bool) → a ≡ (b || (c || false)) → (c ≡ true → b ≡ false) → one_of a ≡ one_of b + one_of c
add_fresh a true true h k = absurd (false≢true (sym (k refl)))
add_fresh a true false h k = ap one_of h
add_fresh a false true h k = ap one_of h
add_fresh a false false h k = ap one_of h

expected_more : (made : List ℕ) (m n : ℕ) → list_any (λ k. k == m) made ≡ false → one_of (list_any (λ k. k == n) (made ++ m ∷ [])) ≡ one_of (list_any (λ k. k == n) made) + one_of (m == n)
expected_more made m n fresh =
    add_fresh (list_any (λ k. k == n) (made ++ m ∷ [])) (list_any (λ k. k == n) made) (m == n) (list_any-append (λ k. k == n) made (m ∷ []))
    (λ e. subst (λ k. list_any (λ j. j == k) made ≡ false) (eqb-true m n e) fresh)

expected_step : (g after : MachineState) (names : List ℕ) → after.yard.made ≡ g.yard.made ++ names → ((names ≡ []) ⊎ ((n : ℕ) × (names ≡ n ∷ []) × (list_any (λ m. m == n) g.yard.made ≡ false)))
    → (name : ℕ) → expected_count after name ≡ expected_count g name + count_by (λ n. n == name) names
expected_step g after names made (inl none) name =
    let same : after.yard.made ≡ g.yard.made = made ∙ (ap (λ ns. g.yard.made ++ ns) none ∙ append-nil g.yard.made) in
    omega (arith, ap (λ ms. one_of (list_any (λ n. n == name) ms)) same, ap (count_by (λ n. n == name)) none)
expected_step g after names made (inr one) name =
    let same : after.yard.made ≡ g.yard.made ++ one.0 ∷ [] = made ∙ ap (λ ns. g.yard.made ++ ns) one.1 in
    omega (arith, ap (λ ms. one_of (list_any (λ n. n == name) ms)) same, ap (count_by (λ n. n == name)) one.1, expected_more g.yard.made one.0 name one.2)

one_at_most : (b : Bool) → one_of b ≤ 1
one_at_most true = omega arith
one_at_most false = omega arith

once_from : (g : MachineState) → EachNameOnce g → OncePlaced g
once_from g each n = omega (arith, placed_name g n, each n, one_at_most (list_any (λ m. m == n) g.yard.made))

once_after : (setup : SetupParts) (g after : MachineState) → EachNameOnce g → Goes setup g after → EachNameOnce after
once_after setup g after each go = λ name.
    omega (
      arith,
      placed_name after name,
      placed_name g name,
      go.balance (once_from g each) (λ n. n == name),
      each name,
      expected_step g after go.names go.made go.fresh name,
    )

pub steps_keep_sound_is : (setup : SetupParts) (g : MachineState) (step : Step) → Sound setup g → fits_step setup step ≡ true → Sound setup (state_after setup g step)
steps_keep_sound_is setup g step sound fits = (step_goes setup g step sound fits).sound

pub steps_keep_counts_is : (setup : SetupParts) (g : MachineState) (step : Step) → Sound setup g → EachNameOnce g → fits_step setup step ≡ true → EachNameOnce (state_after setup g step)
steps_keep_counts_is setup g step sound each fits = once_after setup g (state_after setup g step) each (step_goes setup g step sound fits)

-- what a run keeps
pub record Reached (setup : SetupParts) (g : MachineState) : Type 0 where
  pub sound : Sound setup g
  pub once : EachNameOnce g
  pub total : placed (λ n. true) g ≡ length g.yard.made
  pub live : length g.yard.made ≤ setup.threads + length g.yard.ended

count_all : {X : Type 0} (xs : List X) → count_by (λ x. true) xs ≡ length xs
count_all [] = refl
count_all (x ∷ xs) = omega (arith, sum_by-cons (λ y. 1) x xs, count_all xs)

reached_after : (setup : SetupParts) (g after : MachineState) → Reached setup g → Goes setup g after → Reached setup after
reached_after setup g after r go = record {
  sound = go.sound;
  once = once_after setup g after r.once go;
  total = omega (arith, r.total, go.balance (once_from g r.once) (λ n. true), count_all go.names, ap length go.made, length-append g.yard.made go.names);
  live = go.live r.live;
}

run_reached : (setup : SetupParts) (g : MachineState) (es : List Entry) (end : MachineState) → Reached setup g → RunsFrom setup g es end → Reached setup end
run_reached setup g [] end r run = subst (Reached setup) (sym run) r
run_reached setup g (e ∷ es) end r run =
    run_reached setup (state_after setup g e.step) es end (reached_after setup g (state_after setup g e.step) r (step_goes setup g e.step r.sound run.0)) run.2

empty_reached : (setup : SetupParts) → Reached setup (empty_machine setup)
empty_reached setup = record {
  sound = empty_sound setup;
  once = empty_once setup;
  total = empty_placed setup (λ n. true);
  live = omega arith;
}

pub reached : (setup : SetupParts) (history : List Entry) (end : MachineState) → GRun setup history end → Reached setup end
reached setup history end run = run_reached setup (empty_machine setup) history end (empty_reached setup) run

-- all threads that stand in queues, together, are alive
queued_all : (g : MachineState) → sum_by (λ (s : Flat). length s.entries) g.flats ≡ sum_by (queued_by (λ n. true)) g.flats
queued_all g = sum_by_alike (λ (s : Flat). length s.entries) (queued_by (λ n. true)) g.flats (λ (s : Flat). sym (count_all s.entries))

pub stays_within : (setup : SetupParts) (g : MachineState) → Reached setup g → StaysWithin setup g
stays_within setup g r =
    let live : live_count g.yard ≤ setup.threads = omega (arith, r.live) in
    let queued : sum_by (λ (s : Flat). length s.entries) g.flats ≤ live_count g.yard = omega (arith, r.total, queued_all g, count_all g.yard.ended) in
    record {
      live = live;
      queued = queued;
      formed = λ few c cin. well_formed_from (group_count setup) (flat_at g c)
          (omega (arith, few, live, queued, get_or-le-sum_by (λ (s : Flat). length s.entries) g.flats c (empty_flat 0) (omega (arith, cin, r.sound.flats_length))))
          (flat_parts setup (flat_at g c) (r.sound.flats c cin));
    }
