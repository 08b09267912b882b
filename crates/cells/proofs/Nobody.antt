-- Whether a held yard gives a thread: its answer tells, and so do the blocked threads.
use Rattle.std.proofs.Common.{◌≡◌, ℕ, [], Option, Some, None, is_some, refl, sym, ap, ◌∙◌}
use Rattle.std.specs.Prelude.{IsNone, is_none}
use Rattle.sched_base.specs.declared.Entry.{Entry}
use Rattle.sched_base.specs.declared.Facts.{Facts}
use Rattle.flat_policy.specs.Policy.Unpreceded.{unpreceded}
use Rattle.flat_policy.specs.Runs.Histories.{DueSleeper, RunYard, first_sleeper, wakes_before}
use Rattle.cells.specs.Held.{gives_none}
use Rattle.cells.specs.Yards.{wake_entry, waking_at}

waking_none : (y : RunYard) (now : ℕ) (w : Option DueSleeper) → is_none (waking_at y now w).thread ≡ gives_none (waking_at y now w).answer
waking_none y now None = refl
waking_none y now (Some w) = refl

module _ (actor : ℕ) (y : RunYard) (now : ℕ) (w : Option DueSleeper) (value : Option Facts) (e : Entry) (entry : e ≡ wake_entry actor y now w) (given : value ≡ e.thread) where
  -- the answer tells whether no thread is given
  pub woken_told : is_none value ≡ gives_none e.answer
  woken_told = ap is_none (given ∙ ap (λ (x : Entry). x.thread) entry) ∙ waking_none y now w ∙ sym (ap (λ (x : Entry). gives_none x.answer) entry)

  -- where none is woken none is given
  pub none_woken : w ≡ None → IsNone value
  none_woken none = ap is_some (given ∙ ap (λ (x : Entry). x.thread) entry ∙ ap (λ (o : Option DueSleeper). (waking_at y now o).thread) none)

-- no thread is woken first where none is blocked
pub first_none : (y : RunYard) → y.blocked ≡ [] → first_sleeper y ≡ None
first_none y none = ap (unpreceded wakes_before) none
