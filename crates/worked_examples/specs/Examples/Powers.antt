-- A run whose cluster is turned off in a turn, and on before the rounds, as one history.
use Rattle.std.specs.Prelude.{List, None, Option, [], false, ℕ, ◌∷◌}
use Rattle.sched_base.specs.declared.Act.{Act}
use Rattle.sched_base.specs.declared.Bucket.TheVariants.{Fg}
use Rattle.flat_policy.specs.declared.journal.Line.{Line}
use Rattle.flat_policy.specs.Runs.Histories.{RunYard}
use Rattle.flat_policy.specs.Runs.Interleaving.{Interleaves}
use Rattle.flat_policy.specs.Runs.WholeRuns.{IsWholeRun}
use Rattle.flat_policy.specs.Runs.Worker.{PowerAt, Program, RunParts}
use Rattle.worked_examples.specs.Examples.Logs.{journal_of, log_of, state_of, yard_journal_of}
use Rattle.worked_examples.specs.Rows.Run.{Replies, Said, one_cluster, row_line}
use Rattle.sched_base.specs.declared.Act.TheVariants as acts
use Rattle.sched_base.specs.declared.Answer.TheVariants as answers

-- in turn 0 the cluster is turned off and the select gets no thread; the rounds begin with on
abbrev pub power_said : List Said
power_said =
    row_line 0 0 (acts.Make 1 0 Fg 31 None) answers.Yes
    ∷ row_line 0 0 (acts.Aim) (answers.To 0)
    ∷ row_line 0 0 (acts.Enter 0 false) (answers.Pri 31)
    ∷ row_line 0 0 (acts.Off 0) answers.Yes
    ∷ row_line 0 0 (acts.Blocked) (answers.Left 0)
    ∷ row_line 0 0 (acts.Select) answers.Off
    ∷ row_line 0 0 (acts.Blocked) (answers.Left 0)
    ∷ row_line 0 0 (acts.On 0) answers.Yes
    ∷ row_line 0 0 (acts.Blocked) (answers.Left 0)
    ∷ row_line 0 0 (acts.Select) (answers.Got 1)
    ∷ row_line 5000 0 (acts.Ran 5000) (answers.Work 5000)
    ∷ row_line 5000 0 (acts.End) answers.Yes
    ∷ []

-- the program: 5000 units of work
abbrev pub power_program : Program
power_program = record { name = 1; group = 0; bucket = Fg; base = 31; bound = None; spans = 5000 ∷ [] }

-- the power: off in turn 0
abbrev pub off_in_turn_0 : PowerAt
off_in_turn_0 = record { cluster = 0; on = false; turn = 0 }

-- one numbered turn, and that power
abbrev pub power_run : RunParts
power_run = record { setup = one_cluster; programs = power_program ∷ []; powers = off_in_turn_0 ∷ []; turns = 1 }

-- no line of this run has a mark
abbrev pub no_marks : Act → Option ℕ
no_marks act = None

-- the history, which is the log of its actor
abbrev pub power_log : List Line
power_log = log_of one_cluster no_marks power_said

-- the yard at its end
abbrev pub power_yard : RunYard
power_yard = record { blocked = []; ended = 1 ∷ []; made = 1 ∷ []; last = 5000 }

-- the replies are the lines of the run
abbrev pub PowerReplies : Type 0
PowerReplies = Replies one_cluster power_said

-- it is a whole run: of the machine, of the cluster, of the yard, by the worker rule, and its program ends
abbrev pub PowerIsWhole : Type 0
PowerIsWhole = IsWholeRun power_run power_log (state_of one_cluster power_said) power_yard

-- it is the interleaving of its journals
abbrev pub PowerIsMerged : Type 0
PowerIsMerged = Interleaves (journal_of one_cluster 0 power_log ∷ []) (yard_journal_of one_cluster power_log) (power_log ∷ []) power_log
