-- Whole inputs, and what they come to.
use Rattle.std.specs.Prelude.{List, None, [], codes, false, ℕ, ◌++◌, ◌∷◌, ◌≡◌}
use Rattle.sched_base.specs.declared.buckets.Bucket.TheVariants.{Fg}
use Rattle.flat_policy.specs.Runs.LoadTrace.{Load}
use Rattle.flat_policy.specs.Texts.Lines.{power_text, program_text}
use Rattle.flat_policy.specs.Texts.Streams.{Judged, Out, Replay, RunStatus, Status, StatusOf, bad_line, bad_setup, differs, done, end_met, fault_met, over_met, read_fault, too_long}
use Rattle.flat_policy.specs.declared.texts.LineFault.TheVariants as line_faults
use Rattle.flat_policy.specs.declared.texts.SetupFault.TheVariants as setup_faults

-- the setup line of one cluster with one processor, with its newline
abbrev pub first_line : List ℕ
first_line = codes "{\"clusters\":[[1,1000]],\"edges\":[],\"groups\":[[0,0,0,0,0,0]],\"threads\":8,\"version\":1}\n"

-- the same with its keys in another order and spaces
abbrev pub loose_line : List ℕ
loose_line = codes "{\"version\":1, \"threads\":8,\"groups\":[[0,0,0,0,0,0]],\"edges\":[],\"clusters\":[[1,1000]]}\n"

-- an output and a status
abbrev pub outcome_of : List ℕ → Status → Judged
outcome_of out status = record { out = out; status = status }

-- the canonical setup, a step with its answer, the first faulty line, an answer that differs, and no byte at all
abbrev pub TracesReplayed : Type 0
TracesReplayed =
    (Replay (loose_line ++ codes "0 0 select\n") ≡ outcome_of (first_line ++ codes "0 0 select = -\n") done)
    × (Replay (first_line ++ codes "0 0 select\n0 0 jump\n") ≡ outcome_of (first_line ++ codes "0 0 select = -\n") (bad_line 3 line_faults.Word))
    × (Replay (first_line ++ codes "0 0 select = got 1\n") ≡ outcome_of first_line (differs 2))
    × (Replay (first_line ++ codes "0 0 select") ≡ outcome_of first_line (bad_line 2 line_faults.Unfinished))
    × (Replay [] ≡ outcome_of [] (bad_setup setup_faults.Unfinished))

-- a line that is not whole, at each stop; a faulty line before decides at every stop
abbrev pub TracesStopped : Type 0
TracesStopped =
    (Out (first_line ++ codes "0 0 sel") fault_met ≡ first_line)
    × (StatusOf (first_line ++ codes "0 0 sel") fault_met ≡ read_fault)
    × (StatusOf (first_line ++ codes "0 0 sel") over_met ≡ too_long)
    × (StatusOf (first_line ++ codes "0 0 jump\n0 0") over_met ≡ bad_line 2 line_faults.Word)

-- inputs of runs: a program, an even number of spans, a name twice, a power twice, and a cluster that is not there
abbrev pub RunsJudged : Type 0
RunsJudged =
    (RunStatus (first_line ++ codes "thread 1 0 FG 31 - 5000\noff 0 0\n") end_met ≡ done)
    × (RunStatus (first_line ++ codes "thread 1 0 FG 31 - 5000 2000\n") end_met ≡ bad_line 2 line_faults.Word)
    × (RunStatus (first_line ++ codes "thread 1 0 FG 31 - 5000\nthread 1 0 FG 31 - 5000\n") end_met ≡ bad_line 3 line_faults.Range)
    × (RunStatus (first_line ++ codes "on 0 0\non 0 0\n") end_met ≡ bad_line 3 line_faults.Range)
    × (RunStatus (first_line ++ codes "off 1 0\n") end_met ≡ bad_line 2 line_faults.Range)

-- a program, a power, and the load's summary of one step
abbrev pub RunTexts : Type 0
RunTexts =
    (program_text (record { name = 1; group = 0; bucket = Fg; base = 31; bound = None; spans = 5000 ∷ 2000 ∷ 12000 ∷ [] })
    ≡ codes "thread 1 0 FG 31 - 5000 2000 12000")
    × (power_text (record { cluster = 1; on = false; turn = 4 }) ≡ codes "off 1 4")
    × (Load 7 1
    ≡ codes "load 7 steps 1\nmake 1\nenter 0\nselect 0 of 0\noffer 0 of 0\nran 0\nsleep 0\nwake 0\nend 0\nrefresh 0\nqueued 0\n")
