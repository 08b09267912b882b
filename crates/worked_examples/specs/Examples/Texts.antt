-- Lines read and written.
use Rattle.std.specs.Prelude.{Err, List, None, Ok, Some, [], codes, false, replicate, ℕ, ◌∷◌, ◌≡◌}
use Rattle.sched_base.specs.declared.Bucket.TheVariants.{Fg, Ini}
use Rattle.sched_base.specs.declared.Step.{Step}
use Rattle.flat_policy.specs.Policy.Machine.{empty_machine}
use Rattle.worked_examples.specs.Rows.Run.{one_cluster, two_clusters, without_warp}
use Rattle.flat_policy.specs.Texts.Answers.{answer_text}
use Rattle.flat_policy.specs.Texts.Lines.{power_line, program_line, read_run_line, read_step_line}
use Rattle.flat_policy.specs.Texts.SetupLines.{read_setup_text, setup_text}
use Rattle.flat_policy.specs.Texts.Steps.{step_text}
use Rattle.flat_policy.specs.Texts.Streams.{Judged, bad_line, differs, done, end_met, judge_lines}
use Rattle.sched_base.specs.declared.Act.TheVariants as acts
use Rattle.sched_base.specs.declared.Answer.TheVariants as answers
use Rattle.sched_base.specs.declared.Place.TheVariants as places
use Rattle.flat_policy.specs.declared.texts.LineFault.TheVariants as line_faults
use Rattle.flat_policy.specs.declared.texts.SetupFault.TheVariants as setup_faults
use Rattle.flat_policy.specs.declared.setup.Field.TheVariants as fields

-- a line of a select with the answer that nothing was queued
abbrev pub empty_select : Step
empty_select = record { moment = 1099511627775; actor = 0; act = acts.Select }

-- the faults of lines: a moment too great, a leading zero, a word that is none, a piece too many, an answer of another kind
abbrev pub LineReadings : Type 0
LineReadings =
    (read_step_line (codes "1099511627775 0 select") ≡ Ok (record { step = empty_select; answer = None }))
    × (read_step_line (codes "1099511627775 0 select = -") ≡ Ok (record { step = empty_select; answer = Some answers.Empty }))
    × (read_step_line (codes "1099511627776 0 select") ≡ Err line_faults.Range)
    × (read_step_line (codes "01 0 select") ≡ Err line_faults.Number)
    × (read_step_line (codes "0 0 jump") ≡ Err line_faults.Word)
    × (read_step_line (codes "0 0 select ") ≡ Err line_faults.Word)
    × (read_step_line (codes "0 0 make 1 0 FG 128 x") ≡ Err line_faults.Range)
    × (read_step_line (codes "0 0 make 1 0 FG 127 x") ≡ Err line_faults.Number)
    × (read_step_line (codes "0 0 pull 1 = no NotQueued q 16") ≡ Err line_faults.Range)
    × (read_step_line (codes "") ≡ Err line_faults.Number)
    × (read_step_line (replicate 257 48) ≡ Err line_faults.Long)

-- the lines of a run: an even number of spans is a piece too few, a span of 0 is out of range
abbrev pub RunReadings : Type 0
RunReadings =
    (read_run_line (codes "thread 1 0 FG 31 - 5000 2000 12000")
    ≡ Ok (program_line (record { name = 1; group = 0; bucket = Fg; base = 31; bound = None; spans = 5000 ∷ 2000 ∷ 12000 ∷ [] })))
    × (read_run_line (codes "off 1 4999") ≡ Ok (power_line (record { cluster = 1; on = false; turn = 4999 })))
    × (read_run_line (codes "thread 1 0 FG 31 - 5000 2000") ≡ Err line_faults.Word)
    × (read_run_line (codes "thread 1 0 FG 31 - 0") ≡ Err line_faults.Range)
    × (read_run_line (codes "off 0 5000") ≡ Err line_faults.Range)

-- the text of a step, and of an answer
abbrev pub LineTexts : Type 0
LineTexts =
    (step_text (record { moment = 5; actor = 1; act = acts.Make 7 2 Ini 31 (Some 0) }) ≡ codes "5 1 make 7 2 IN 31 0")
    × (answer_text (answers.NotQueued (places.Queue 3)) ≡ codes "no NotQueued q 3")

-- the canonical text of a setup of each version
abbrev pub SetupTexts : Type 0
SetupTexts =
    (setup_text one_cluster ≡ codes "{\"clusters\":[[1,1000]],\"edges\":[],\"groups\":[[0,0,0,0,0,0]],\"threads\":8,\"version\":1}")
    × (setup_text two_clusters
    ≡ codes "{\"clusters\":[[1,1000],[1,400]],\"edges\":[[0,1,8000,1,16],[1,0,0,1,0]],\"groups\":[[0,0,0,0,0,0],[1,1,1,1,1,1]],\"threads\":8,\"version\":1}")
    × (setup_text without_warp
    ≡ codes "{\"clusters\":[[1,1000]],\"edges\":[],\"groups\":[[0,0,0,0,0,0]],\"threads\":8,\"times\":[[[0,0,37500,75000,150000,250000],[0,0,4000,2000,1000,0],[10000,10000,8000,6000,4000,2000]]],\"version\":2}")

-- setup lines that are read, and their first faults
abbrev pub SetupReadings : Type 0
SetupReadings =
    (read_setup_text (codes "{\"version\":1, \"threads\":8,\"groups\":[[0,0,0,0,0,0]],\"edges\":[],\"clusters\":[[1,1000]]}") ≡ Ok one_cluster)
    × (read_setup_text (codes "nul") ≡ Err setup_faults.NotJson)
    × (read_setup_text (codes "[]") ≡ Err (setup_faults.Shape fields.Whole))
    × (read_setup_text (codes "{}") ≡ Err (setup_faults.Shape fields.Clusters))
    × (read_setup_text (codes "{\"clusters\":[[1,1000]],\"edges\":[],\"groups\":[[0,0,0,0,0,0]],\"threads\":0,\"version\":1}") ≡ Err (setup_faults.Range fields.Threads))
    × (read_setup_text (codes "{\"clusters\":[[1,1000]],\"edges\":[],\"groups\":[[0,0,0,0,0,0]],\"threads\":8,\"version\":2}") ≡ Err (setup_faults.Shape fields.Times))
    × (read_setup_text (codes "{\"clusters\":[[1,1000]],\"edges\":[],\"groups\":[[0,0,0,0,0,0]],\"threads\":8,\"version\":3}") ≡ Err (setup_faults.Range fields.Version))

-- the lines of a trace after the setup, judged
abbrev pub judged_lines : List (List ℕ) → List ℕ → Judged
judged_lines lines rest = judge_lines one_cluster end_met rest 2 lines (empty_machine one_cluster)

-- the output and the status of each: a faulty line, a step that does not fit, an answer that differs, one that does not, and a line cut off
abbrev pub Judgements : Type 0
Judgements =
    (judged_lines (codes "0 0 select" ∷ codes "0 0 jump" ∷ []) [] ≡ record { out = codes "0 0 select = -\n"; status = bad_line 3 line_faults.Word })
    × (judged_lines (codes "0 1 select" ∷ []) [] ≡ record { out = []; status = bad_line 2 line_faults.Range })
    × (judged_lines (codes "0 0 select = got 1" ∷ []) [] ≡ record { out = []; status = differs 2 })
    × (judged_lines (codes "0 0 select = -" ∷ []) [] ≡ record { out = codes "0 0 select = -\n"; status = done })
    × (judged_lines [] (codes "0 0 select") ≡ record { out = []; status = bad_line 2 line_faults.Unfinished })
