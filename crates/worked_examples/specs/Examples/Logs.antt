-- How a worked run becomes a history: the steps, what the machine replies to them, and the marks of their acts.
use Rattle.std.specs.Prelude.{List, Option, map, ℕ}
use Rattle.sched_base.specs.declared.Act.{Act}
use Rattle.sched_base.specs.declared.Entry.{Entry}
use Rattle.sched_base.specs.declared.Step.{Step}
use Rattle.flat_policy.specs.declared.journal.Line.{Line}
use Rattle.flat_policy.specs.Policy.Machine.{MachineState, empty_machine, replies, states_after}
use Rattle.flat_policy.specs.Policy.Setup.{SetupParts}
use Rattle.flat_policy.specs.Runs.Interleaving.{lines_at, yard_lines}
use Rattle.flat_policy.specs.Runs.WholeRuns.{spot_by_setup}
use Rattle.worked_examples.specs.Rows.Run.{Said}

-- the steps of lines
abbrev pub steps_of : List Said → List Step
steps_of said = map (λ (l : Said). l.step) said

-- a line with the mark that its act has in a run
abbrev pub marked : (Act → Option ℕ) → Entry → Line
marked mark e = record { entry = e; mark = mark e.step.act }

-- what the machine replies to the steps, with the marks
abbrev pub log_of : SetupParts → (Act → Option ℕ) → List Said → List Line
log_of setup mark said = map (marked mark) (replies setup (empty_machine setup) (steps_of said))

-- the state of the machine after the steps
abbrev pub state_of : SetupParts → List Said → MachineState
state_of setup said = states_after setup (empty_machine setup) (steps_of said)

-- the lines of a history at a cluster
abbrev pub journal_of : SetupParts → ℕ → List Line → List Line
journal_of setup c log = lines_at (spot_by_setup setup) c log

-- its lines in the yard
abbrev pub yard_journal_of : SetupParts → List Line → List Line
yard_journal_of setup log = yard_lines (spot_by_setup setup) log
