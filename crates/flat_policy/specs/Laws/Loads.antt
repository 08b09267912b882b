-- Laws of the load: no step of it is refused, and at most one of its threads sleeps.
use Rattle.std.specs.Prelude.{None, ℕ, ◌+◌, ◌≡◌, ◌≤◌}
use Rattle.flat_policy.specs.Policy.Machine.{refusal}
use Rattle.flat_policy.specs.Runs.LoadTrace.{load_after, load_setup, step_of_load}

-- no step of the load is refused
abbrev pub LoadIsNotRefused : Type 0
LoadIsNotRefused = (seed n : ℕ) → refusal load_setup (load_after seed n).state (step_of_load (load_after seed n) n) ≡ None

-- so many threads went to sleep as were woken, or one more
abbrev pub LoadSleepsOne : Type 0
LoadSleepsOne =
    (seed n : ℕ) → ((load_after seed n).tally.wakes ≤ (load_after seed n).tally.sleeps) × ((load_after seed n).tally.sleeps ≤ (load_after seed n).tally.wakes + 1)
