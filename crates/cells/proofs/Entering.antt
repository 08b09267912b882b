-- Entering a held cluster: the step that its line makes, and what it keeps.
use Rattle.std.proofs.Common.{◌≡◌, ℕ, ◌<◌, ◌≤◌, ◌==◌, nat_lt, ◌&&◌, Bool, true, List, length, None, refl, sym, ap, ◌∙◌, subst, arith}
use Rattle.std.proofs.lemmas.Bool.{and_from, cond-true, eq-eqb, lt-ltb}
use Rattle.sched_base.specs.Limits.{moment_limit, most_threads}
use Rattle.sched_base.specs.declared.Act.TheVariants as acts
use Rattle.sched_base.specs.declared.Facts.{Facts}
use Rattle.flat_policy.specs.Policy.Aim.{MayEnter, may_enter}
use Rattle.flat_policy.specs.Policy.ClusterSteps.{Event, enter_event}
use Rattle.flat_policy.specs.Policy.Moves.{new_entry, settled_thread}
use Rattle.flat_policy.specs.Policy.Queue.{Flat, Queued}
use Rattle.flat_policy.specs.Policy.Setup.{SetupParts, actor_count, cluster_count, cluster_times}
use Rattle.flat_policy.specs.Policy.Threads.{ThreadFits}
use Rattle.flat_policy.specs.Policy.WellFormed.{EachQueued}
use Rattle.flat_policy.specs.Runs.Histories.{CStep, entering, where_true}
use Rattle.flat_policy.specs.Runs.Worker.{Program}
use Rattle.flat_policy.proofs.After.{entered_entries}
use Rattle.flat_policy.proofs.Parts.{each_push}
use Rattle.flat_policy.proofs.Usage.{decay_within}
use Rattle.cells.specs.Courses.{IsOf, OnCourse}
use Rattle.cells.specs.Held.{entry_of, unmarked}
use Rattle.cells.proofs.Stepping.{place_step}

pub enter_step : (setup : SetupParts) (c : ℕ) (s : Flat) (t : Facts) (head : Bool) (moment actor : ℕ) → c < cluster_count setup → moment < moment_limit → actor < actor_count setup → s.last ≤ moment → length s.entries < most_threads
    → ThreadFits setup t → MayEnter setup t c → CStep setup c s (unmarked (entry_of moment actor (acts.Enter c head) (enter_event setup c t head moment s))) (enter_event setup c t head moment s).flat
enter_step setup c s t head moment actor there soon known later room fits may =
    let event : Event = enter_event setup c t head moment s in
    let may_now : (nat_lt (length s.entries) most_threads && may_enter setup t c) ≡ true = and_from (nat_lt (length s.entries) most_threads) (may_enter setup t c) (lt-ltb (length s.entries) most_threads room) may in
    place_step setup c s moment actor (acts.Enter c head) None event there soon known later
    (and_from (nat_lt c (cluster_count setup)) true (lt-ltb c (cluster_count setup) there) refl) refl fits
    (cond-true (c == c) (entering setup c s head moment t) None (eq-eqb c c refl) ∙ ap (λ b. where_true b event) may_now)

-- a thread as it enters is as much on course
pub settled_course : (setup : SetupParts) (programs : List Program) (now : ℕ) (t : Facts) → OnCourse setup programs t → OnCourse setup programs (settled_thread now t)
settled_course setup programs now t on =
    let f : ThreadFits setup t = on.fits.thread in
    let of_it : IsOf on.fits.program t = on.fits.of_it in
    record {
      fits = record {
        program = on.fits.program;
        one = on.fits.one;
        fitting = on.fits.fitting;
        of_it = record { name = of_it.name; group = of_it.group; bucket = of_it.bucket; base = of_it.base; bound = of_it.bound };
        thread = record {
          group = f.group;
          base = f.base;
          bound = f.bound;
          prefer = f.prefer;
          name = f.name;
          usage = omega (arith, decay_within t.usage t.seen now, f.usage);
          pending_ran = omega arith;
          pending_blocked = omega arith;
        };
      };
      left = on.left;
    }

-- every entry is on course after a thread on course entered
pub entered_course : (setup : SetupParts) (programs : List Program) (c : ℕ) (t : Facts) (head : Bool) (now : ℕ) (s : Flat) → EachQueued (λ (e : Queued). OnCourse setup programs e.facts) s.entries → OnCourse setup programs t
    → EachQueued (λ (e : Queued). OnCourse setup programs e.facts) (enter_event setup c t head now s).flat.entries
entered_course setup programs c t head now s each on =
    let P : Queued → Type 0 = λ e. OnCourse setup programs e.facts in
    subst (EachQueued P) (sym (entered_entries (cluster_times setup c) t head now s))
    (each_push P s.entries (new_entry s (settled_thread now t) head) each (settled_course setup programs now t on))
