-- The run of one thread, with a sleep, as one history: the log of its actor, and the journals of its places.
use Rattle.std.specs.Prelude.{List, None, Option, Some, [], codes, false, take, ℕ, ◌∷◌, ◌≡◌}
use Rattle.sched_base.specs.declared.Act.{Act}
use Rattle.sched_base.specs.declared.Bucket.TheVariants.{Fg}
use Rattle.flat_policy.specs.declared.journal.Line.{Line}
use Rattle.flat_policy.specs.Runs.Histories.{RunYard, entries_of}
use Rattle.flat_policy.specs.Runs.Interleaving.{Interleaves}
use Rattle.flat_policy.specs.Runs.WholeRuns.{IsWholeRun}
use Rattle.flat_policy.specs.Runs.Worker.{Program, RunParts}
use Rattle.flat_policy.specs.Texts.Streams.{RunText}
use Rattle.worked_examples.specs.Examples.Logs.{journal_of, log_of, state_of, yard_journal_of}
use Rattle.worked_examples.specs.Rows.Run.{Replies, Said, one_cluster, row_line}
use Rattle.sched_base.specs.declared.Act.TheVariants as acts
use Rattle.sched_base.specs.declared.Answer.TheVariants as answers

-- the steps of the run
abbrev pub one_thread_said : List Said
one_thread_said =
    row_line 0 0 (acts.Make 1 0 Fg 31 None) answers.Yes
    ∷ row_line 0 0 (acts.Aim) (answers.To 0)
    ∷ row_line 0 0 (acts.Enter 0 false) (answers.Pri 31)
    ∷ row_line 0 0 (acts.Blocked) (answers.Left 0)
    ∷ row_line 0 0 (acts.Select) (answers.Got 1)
    ∷ row_line 5000 0 (acts.Ran 5000) (answers.Work 5000)
    ∷ row_line 5000 0 (acts.Sleep) answers.Yes
    ∷ row_line 5000 0 (acts.Blocked) (answers.Left 1)
    ∷ row_line 5000 0 (acts.Select) answers.Empty
    ∷ row_line 7000 0 (acts.Wake 1) answers.Yes
    ∷ row_line 7000 0 (acts.Aim) (answers.To 0)
    ∷ row_line 7000 0 (acts.Enter 0 false) (answers.Pri 31)
    ∷ row_line 7000 0 (acts.Blocked) (answers.Left 0)
    ∷ row_line 7000 0 (acts.Select) (answers.Got 1)
    ∷ row_line 17000 0 (acts.Ran 10000) (answers.Work 15000)
    ∷ row_line 17000 0 (acts.Aim) (answers.To 0)
    ∷ row_line 17000 0 (acts.Enter 0 false) (answers.Pri 31)
    ∷ row_line 17000 0 (acts.Blocked) (answers.Left 0)
    ∷ row_line 17000 0 (acts.Select) (answers.Got 1)
    ∷ row_line 19000 0 (acts.Ran 2000) (answers.Work 17000)
    ∷ row_line 19000 0 (acts.End) answers.Yes
    ∷ []

-- the program: 5000 units of work, a sleep of 2000, and 12000 units
abbrev pub one_program : Program
one_program = record { name = 1; group = 0; bucket = Fg; base = 31; bound = None; spans = 5000 ∷ 2000 ∷ 12000 ∷ [] }

-- one numbered turn, and no power
abbrev pub one_run : RunParts
one_run = record { setup = one_cluster; programs = one_program ∷ []; powers = []; turns = 1 }

-- a sleep of this run lasts 2000
abbrev pub sleeps_2000 : Act → Option ℕ
sleeps_2000 acts.Sleep = Some 2000
sleeps_2000 _ = None

-- the history: what the machine replies to the steps
abbrev pub one_log : List Line
one_log = log_of one_cluster sleeps_2000 one_thread_said

-- its lines at the cluster
abbrev pub one_journal : List Line
one_journal = journal_of one_cluster 0 one_log

-- its lines in the yard
abbrev pub one_yard_journal : List Line
one_yard_journal = yard_journal_of one_cluster one_log

-- the yard at its end
abbrev pub one_yard : RunYard
one_yard = record { blocked = []; ended = 1 ∷ []; made = 1 ∷ []; last = 19000 }

-- the replies are the lines of the run
abbrev pub OneThreadReplies : Type 0
OneThreadReplies = Replies one_cluster one_thread_said

-- it is a whole run, with one actor: of the machine, of the cluster, of the yard, by the worker rule, and its program ends
abbrev pub OneThreadIsWhole : Type 0
OneThreadIsWhole = IsWholeRun one_run one_log (state_of one_cluster one_thread_said) one_yard

-- the log is the interleaving of its journals
abbrev pub OneThreadIsMerged : Type 0
OneThreadIsMerged = Interleaves (one_journal ∷ []) one_yard_journal (one_log ∷ []) one_log

-- the text of the run begins with the setup and the make
abbrev pub OneThreadText : Type 0
OneThreadText =
    RunText one_cluster (take 2 (entries_of one_log))
    ≡ codes "{\"clusters\":[[1,1000]],\"edges\":[],\"groups\":[[0,0,0,0,0,0]],\"threads\":8,\"version\":1}\n0 0 make 1 0 FG 31 - = ok\n0 0 aim = to 0\n"
