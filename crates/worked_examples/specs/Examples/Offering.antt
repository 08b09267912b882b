-- Two actors that offer across an edge, as one history: actor 1 takes the thread of cluster 0, and actor 0 finds nothing.
use Rattle.std.specs.Prelude.{List, None, Option, Some, [], false, ℕ, ◌∷◌}
use Rattle.sched_base.specs.declared.Act.{Act}
use Rattle.sched_base.specs.declared.Bucket.TheVariants.{Ut}
use Rattle.flat_policy.specs.declared.journal.Line.{Line}
use Rattle.flat_policy.specs.Runs.Histories.{RunYard}
use Rattle.flat_policy.specs.Runs.Interleaving.{Interleaves, lines_of_actor}
use Rattle.flat_policy.specs.Runs.WholeRuns.{IsWholeRun}
use Rattle.flat_policy.specs.Runs.Worker.{Program, RunParts}
use Rattle.worked_examples.specs.Examples.Logs.{journal_of, log_of, state_of, yard_journal_of}
use Rattle.worked_examples.specs.Rows.Run.{Replies, Said, row_line, two_clusters}
use Rattle.sched_base.specs.declared.Act.TheVariants as acts
use Rattle.sched_base.specs.declared.Answer.TheVariants as answers

-- the thread is placed at cluster 0, stolen from there, and ends at cluster 1; the turn of actor 0 is idle
abbrev pub offering_said : List Said
offering_said =
    row_line 0 0 (acts.Make 1 0 Ut 31 None) answers.Yes
    ∷ row_line 0 0 (acts.Look 0) (answers.Load 0)
    ∷ row_line 0 0 (acts.Look 1) (answers.Load 0)
    ∷ row_line 0 0 (acts.Aim) (answers.To 0)
    ∷ row_line 0 0 (acts.Enter 0 false) (answers.Pri 31)
    ∷ row_line 0 1 (acts.Blocked) (answers.Left 0)
    ∷ row_line 0 1 (acts.Select) answers.Empty
    ∷ row_line 0 1 (acts.Offer 0) (answers.Got 1)
    ∷ row_line 0 0 (acts.Blocked) (answers.Left 0)
    ∷ row_line 0 0 (acts.Select) answers.Empty
    ∷ row_line 0 0 (acts.Offer 1) answers.Empty
    ∷ row_line 0 0 (acts.Blocked) (answers.Left 0)
    ∷ row_line 2500 1 (acts.Ran 2500) (answers.Work 1000)
    ∷ row_line 2500 1 (acts.End) answers.Yes
    ∷ []

-- the program: 1000 units of work
abbrev pub offering_program : Program
offering_program = record { name = 1; group = 0; bucket = Ut; base = 31; bound = None; spans = 1000 ∷ [] }

-- one numbered turn, and no power
abbrev pub offering_run : RunParts
offering_run = record { setup = two_clusters; programs = offering_program ∷ []; powers = []; turns = 1 }

-- the looks are for the bucket UT
abbrev pub looks_for_ut : Act → Option ℕ
looks_for_ut (acts.Look c) = Some 4
looks_for_ut _ = None

-- the history
abbrev pub offering_log : List Line
offering_log = log_of two_clusters looks_for_ut offering_said

-- the log of an actor
abbrev pub offering_actor : ℕ → List Line
offering_actor a = lines_of_actor a offering_log

-- the yard at its end
abbrev pub offering_yard : RunYard
offering_yard = record { blocked = []; ended = 1 ∷ []; made = 1 ∷ []; last = 2500 }

-- the replies are the lines of the run
abbrev pub OfferingReplies : Type 0
OfferingReplies = Replies two_clusters offering_said

-- it is a whole run: of the machine, of both clusters, of the yard, by the worker rule for both actors, and its program ends
abbrev pub OfferingIsWhole : Type 0
OfferingIsWhole = IsWholeRun offering_run offering_log (state_of two_clusters offering_said) offering_yard

-- it is the interleaving of its journals and logs
abbrev pub OfferingIsMerged : Type 0
OfferingIsMerged =
    Interleaves (journal_of two_clusters 0 offering_log ∷ journal_of two_clusters 1 offering_log ∷ [])
    (yard_journal_of two_clusters offering_log)
    (offering_actor 0 ∷ offering_actor 1 ∷ [])
    offering_log
