-- Waking a thread of a held yard, and counting the blocked ones: the step that its line makes, and what it keeps.
use Rattle.std.proofs.Common.{◌≡◌, ℕ, ◌+◌, ◌<◌, ◌≤◌, ◌==◌, ◌^◌, nat_le, not, Bool, true, false, List, [], ◌∷◌, find, length, Some, None, option_and_then, refl, sym, ap, ◌∙◌, subst, inl, inr, arith}
use Rattle.std.proofs.lemmas.Bool.{and_from, cases_Bool, cond-false, cond-true, eq-eqb, le-leb, lt-ltb}
use Rattle.std.proofs.lemmas.List.Edits.{length-remove}
use Rattle.std.proofs.lemmas.Option.{none-some, same_Some}
use Rattle.rights.specs.Values.{DeskId}
use Rattle.sched_base.specs.Facts.{rested}
use Rattle.sched_base.specs.Limits.{moment_limit}
use Rattle.sched_base.specs.declared.Act.TheVariants as acts
use Rattle.sched_base.specs.declared.Facts.{Facts}
use Rattle.flat_policy.specs.Policy.Setup.{SetupParts, actor_count}
use Rattle.flat_policy.specs.Policy.Threads.{ThreadFits}
use Rattle.flat_policy.specs.Runs.Histories.{DueSleeper, RunYard, YStep, YardEvent, first_sleeper, others_blocked, waking, where_true, without_first}
use Rattle.flat_policy.specs.Runs.Worker.{Program}
use Rattle.cells.specs.Courses.{IsOf, OnCourse}
use Rattle.cells.specs.Held.{unmarked}
use Rattle.cells.specs.Waking.{IsFirstAt, is_foremost}
use Rattle.cells.specs.Yards.{EachBlocked, IsSleeper, KeepsYard, YardParts, some_due, wake_entry, waking_at, yard_stepped}
use Rattle.cells.proofs.YardKeeping.{made_within, yard_stepped_keeps}
use Rattle.cells.proofs.YardSteps.{fits_from}

wake_step : (setup : SetupParts) (y : RunYard) (w : DueSleeper) (moment actor : ℕ) → moment < moment_limit → actor < actor_count setup → w.facts.name < 2 ^ 32 → y.last ≤ moment → first_sleeper y ≡ Some w → w.due ≤ moment
    → YStep setup y (unmarked (wake_entry actor y moment (Some w))) (waking_at y moment (Some w)).yard
wake_step setup y w moment actor soon known named later first due =
    let event : YardEvent = waking_at y moment (Some w) in
    let now_due : nat_le w.due moment ≡ true = le-leb w.due moment due in
    record {
      fits = record {
        step = fits_from setup (record { moment = moment; actor = actor; act = acts.Wake w.facts.name }) soon known refl (lt-ltb w.facts.name (2 ^ 32) named);
        mark = refl;
      };
      not_before = later;
      event = event;
      happens = ap (option_and_then (waking y moment w.facts.name)) first
          ∙ ap (λ b. where_true b event) (and_from (w.facts.name == w.facts.name) (nat_le w.due moment) (eq-eqb w.facts.name w.facts.name refl) now_due);
      told = record { answer = refl; thread = refl };
      leads = refl;
    }

count_step : (setup : SetupParts) (y : RunYard) (moment actor : ℕ) → moment < moment_limit → actor < actor_count setup → y.last ≤ moment → some_due y moment ≡ false
    → YStep setup y (unmarked (wake_entry actor y moment None)) (waking_at y moment None).yard
count_step setup y moment actor soon known later none = record {
  fits = record { step = fits_from setup (record { moment = moment; actor = actor; act = acts.Blocked }) soon known refl refl; mark = refl };
  not_before = later;
  event = waking_at y moment None;
  happens = ap (λ b. where_true (not b) (waking_at y moment None)) none;
  told = record { answer = refl; thread = refl };
  leads = refl;
}

-- a thread that has rested is as much on course
rested_course : (setup : SetupParts) (programs : List Program) (span : ℕ) (t : Facts) → OnCourse setup programs t → OnCourse setup programs (rested span t)
rested_course setup programs span t on =
    let f : ThreadFits setup t = on.fits.thread in
    let of_it : IsOf on.fits.program t = on.fits.of_it in
    record {
      fits = record {
        program = on.fits.program;
        one = on.fits.one;
        fitting = on.fits.fitting;
        of_it = record { name = of_it.name; group = of_it.group; bucket = of_it.bucket; base = of_it.base; bound = of_it.bound };
        thread = record {
          group = f.group;
          base = f.base;
          bound = f.bound;
          prefer = f.prefer;
          name = f.name;
          usage = f.usage;
          pending_ran = f.pending_ran;
          pending_blocked = omega arith;
        };
      };
      left = on.left;
    }

-- what holds of each blocked thread holds of those that are left, and of the one that is found
each_left : (P : DueSleeper → Type 0) (p : DueSleeper → Bool) (ws : List DueSleeper) → EachBlocked P ws → EachBlocked P (without_first p ws)
each_left P p [] each = each
each_left P p (w ∷ ws) each =
    elim (cases_Bool (p w)) [
      | inl e ↦ subst (EachBlocked P) (sym (cond-true (p w) ws (w ∷ without_first p ws) e)) each.1
      | inr e ↦ subst (EachBlocked P) (sym (cond-false (p w) ws (w ∷ without_first p ws) e)) (each.0, each_left P p ws each.1)
    ]

each_found : (P : DueSleeper → Type 0) (p : DueSleeper → Bool) (ws : List DueSleeper) (w : DueSleeper) → EachBlocked P ws → find p ws ≡ Some w → P w
each_found P p [] w each h = absurd (none-some w h)
each_found P p (v ∷ ws) w each h =
    elim (cases_Bool (p v)) [
      | inl e ↦ (let same : v ≡ w = same_Some v w (sym (cond-true (p v) (Some v) (find p ws) e) ∙ h) in subst P same each.0)
      | inr e ↦ each_found P p ws w each.1 (sym (cond-false (p v) (Some v) (find p ws) e) ∙ h)
    ]

-- one blocked thread fewer
pub one_fewer : (y : RunYard) (i : ℕ) → IsFirstAt y.blocked i → length (others_blocked y) + 1 ≡ length y.blocked
one_fewer y i at = ap (λ (ws : List DueSleeper). length ws + 1) (sym at.others) ∙ length-remove y.blocked i at.within

module _ (setup : SetupParts) (programs : List Program) (desks : List DeskId) (h : YardParts) (k : KeepsYard setup programs desks h) where
  -- the thread that is found is on course, and is due in time
  pub first_is_sleeper : (w : DueSleeper) → first_sleeper h.yard ≡ Some w → IsSleeper setup programs w
  first_is_sleeper w first = each_found (IsSleeper setup programs) (is_foremost h.yard.blocked) h.yard.blocked w k.course first

  -- and so is what leaves
  pub woken_course : (w : DueSleeper) (span : ℕ) → first_sleeper h.yard ≡ Some w → OnCourse setup programs (rested span w.facts)
  woken_course w span first = rested_course setup programs span w.facts (first_is_sleeper w first).course

  -- what is kept after the first was woken
  pub wakes_keeps : (i : ℕ) (w : DueSleeper) (moment actor : ℕ) → IsFirstAt h.yard.blocked i → first_sleeper h.yard ≡ Some w → w.due ≤ moment → moment < moment_limit → actor < actor_count setup → h.yard.last ≤ moment
      → KeepsYard setup programs desks (yard_stepped (unmarked (wake_entry actor h.yard moment (Some w))) (waking_at h.yard moment (Some w)).yard h)
  wakes_keeps i w moment actor at first due soon known later =
      yard_stepped_keeps setup programs desks h k (unmarked (wake_entry actor h.yard moment (Some w))) (waking_at h.yard moment (Some w)).yard
      (wake_step setup h.yard w moment actor soon known (first_is_sleeper w first).course.fits.thread.name later first due)
      (each_left (IsSleeper setup programs) (is_foremost h.yard.blocked) h.yard.blocked k.course)
      soon (omega (arith, k.minted, k.few)) (made_within setup programs desks h k) (omega (arith, one_fewer h.yard i at, k.within)) k.ended_few

  -- and after the blocked ones were counted
  pub counts_keeps : (moment actor : ℕ) → some_due h.yard moment ≡ false → moment < moment_limit → actor < actor_count setup → h.yard.last ≤ moment
      → KeepsYard setup programs desks (yard_stepped (unmarked (wake_entry actor h.yard moment None)) (waking_at h.yard moment None).yard h)
  counts_keeps moment actor none soon known later =
      yard_stepped_keeps setup programs desks h k (unmarked (wake_entry actor h.yard moment None)) (waking_at h.yard moment None).yard
      (count_step setup h.yard moment actor soon known later none)
      k.course soon (omega (arith, k.minted, k.few)) (made_within setup programs desks h k) k.within k.ended_few
