-- Laws of whole runs: each name made stands in one place, states stay sound, and no more threads live than the setup allows.
use Rattle.std.specs.Prelude.{IsTrue, List, length, sum_by, ℕ, ◌<◌, ◌≡◌, ◌≤◌}
use Rattle.sched_base.specs.Limits.{most_threads}
use Rattle.sched_base.specs.declared.Entry.{Entry}
use Rattle.sched_base.specs.declared.Step.{Step}
use Rattle.flat_policy.specs.Laws.Sound.{Sound}
use Rattle.flat_policy.specs.Policy.Machine.{GRun, MachineState, expected_count, fits_step, flat_at, live_count, place_count, state_after}
use Rattle.flat_policy.specs.Policy.Queue.{Flat}
use Rattle.flat_policy.specs.Policy.Setup.{SetupParts, cluster_count, group_count}
use Rattle.flat_policy.specs.Policy.WellFormed.{WellFormed}

-- each name that was made stands in one place, and no other name in any
abbrev pub EachNameOnce : MachineState → Type 0
EachNameOnce g = (name : ℕ) → place_count g name ≡ expected_count g name

-- each step that the setup fits keeps it so, from a sound state
abbrev pub StepsKeepCounts : Type 0
StepsKeepCounts = (setup : SetupParts) (g : MachineState) (step : Step) → Sound setup g → EachNameOnce g → IsTrue (fits_step setup step) → EachNameOnce (state_after setup g step)

-- and so it is after every run
abbrev pub RunsKeepCounts : Type 0
RunsKeepCounts = (setup : SetupParts) (history : List Entry) (end : MachineState) → GRun setup history end → EachNameOnce end

-- after every run the state is sound
abbrev pub RunsStaySound : Type 0
RunsStaySound = (setup : SetupParts) (history : List Entry) (end : MachineState) → GRun setup history end → Sound setup end

-- no more threads live than the setup allows, no more are queued than live, and each queue is well-formed where the setup allows no more than 4096
pub record StaysWithin (setup : SetupParts) (g : MachineState) : Type 0 where
  pub live : live_count g.yard ≤ setup.threads
  pub queued : sum_by (λ (s : Flat). length s.entries) g.flats ≤ live_count g.yard
  pub formed : setup.threads ≤ most_threads → (c : ℕ) → c < cluster_count setup → WellFormed (group_count setup) (flat_at g c)

-- after every run it is so
abbrev pub RunsStayWithin : Type 0
RunsStayWithin = (setup : SetupParts) (history : List Entry) (end : MachineState) → GRun setup history end → StaysWithin setup end
