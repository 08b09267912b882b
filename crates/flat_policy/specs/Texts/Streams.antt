-- What a whole input comes to: the status, and the output.
use Rattle.std.specs.List.{list_any}
use Rattle.std.specs.Option.{option_map_or}
use Rattle.std.specs.Prelude.{Bool, Err, List, None, Ok, Option, Result, Some, [], false, flat_map, if◌then◌else◌, length, nat_le, nat_lt, not, suc, sum_by, true, ℕ, ◌&&◌, ◌++◌, ◌+◌, ◌==◌, ◌∷◌}
use Rattle.sched_base.specs.Limits.{most_run_work, setup_bytes}
use Rattle.sched_base.specs.declared.Answer.{Answer}
use Rattle.sched_base.specs.declared.Entry.{Entry}
use Rattle.flat_policy.specs.declared.texts.Given.{Given}
use Rattle.flat_policy.specs.declared.texts.LineFault.{LineFault}
use Rattle.flat_policy.specs.declared.texts.SetupFault.{SetupFault}
use Rattle.flat_policy.specs.Policy.Machine.{MachineState, empty_machine, fits_step, reply, state_after}
use Rattle.flat_policy.specs.Policy.Setup.{SetupParts, cluster_count, group_count}
use Rattle.flat_policy.specs.Texts.Answers.{same_answer}
use Rattle.flat_policy.specs.Texts.Lines.{RunSays, entry_text, line_limit, newline, power_line, program_line, read_run_line, read_step_line}
use Rattle.flat_policy.specs.Texts.Pieces.{and_then}
use Rattle.flat_policy.specs.Texts.SetupLines.{read_setup_text, setup_text}
use Rattle.flat_policy.specs.Runs.Worker.{PowerAt, Program}
use Rattle.flat_policy.specs.declared.texts.LineFault.TheVariants as line_faults
use Rattle.flat_policy.specs.declared.texts.SetupFault.TheVariants as setup_faults

-- the lines of some bytes: the whole ones without their newlines, and the bytes after the last newline
pub record TextLines : Type 0 where
  pub whole : List (List ℕ)
  pub rest : List ℕ

-- a byte before some lines
abbrev pub before_lines : ℕ → List (List ℕ) → List ℕ → TextLines
before_lines b [] rest = record { whole = []; rest = b ∷ rest }
before_lines b (w ∷ ws) rest = record { whole = (b ∷ w) ∷ ws; rest = rest }

-- a byte before some lines, where a newline begins a line of its own
abbrev pub with_byte : ℕ → TextLines → TextLines
with_byte b t = if b == 10 then record t { whole = [] ∷ t.whole } else before_lines b t.whole t.rest

-- the lines of some bytes
abbrev pub text_lines : List ℕ → TextLines
text_lines [] = record { whole = []; rest = [] }
text_lines (b ∷ bs) = with_byte b (text_lines bs)

-- why the reading stopped: the input ended, a take failed, or a byte past the limit of the input was taken
pub data Stop : Type 0 where
  end_met : Stop
  fault_met : Stop
  over_met : Stop

-- the status of an input
pub data Status : Type 0 where
  done : Status
  bad_setup : SetupFault → Status
  bad_line : ℕ → LineFault → Status
  differs : ℕ → Status
  too_long : Status
  read_fault : Status

-- the output and the status
pub record Judged : Type 0 where
  pub out : List ℕ
  pub status : Status

-- a status, with no output
abbrev pub stopped : Status → Judged
stopped status = record { out = []; status = status }

-- some text before the output
abbrev pub after_text : List ℕ → Judged → Judged
after_text text j = record j { out = text ++ j.out }

-- the status at the end of an input: unfinished where bytes follow the last newline
abbrev pub unfinished_or : Status → List ℕ → Status → Status
unfinished_or unfinished [] ended = ended
unfinished_or unfinished (b ∷ bs) ended = unfinished

-- the status by why the reading stopped
abbrev pub status_at_stop : Stop → Status → List ℕ → Status → Status
status_at_stop end_met unfinished rest ended = unfinished_or unfinished rest ended
status_at_stop fault_met unfinished rest ended = read_fault
status_at_stop over_met unfinished rest ended = too_long

-- the status after the whole lines: the bytes after them are too long, or the stop decides
abbrev pub status_after_lines : Stop → ℕ → List ℕ → Status
status_after_lines stop number rest =
    if nat_lt line_limit (length rest) then bad_line number line_faults.Long
    else status_at_stop stop (bad_line number line_faults.Unfinished) rest done

-- a step with its answer, unless the setup does not fit the step
abbrev pub if_fits : SetupParts → Given → Result Given LineFault
if_fits setup given = if fits_step setup given.step then Ok given else Err line_faults.Range

-- a line of a trace that the setup fits
abbrev pub step_line : SetupParts → List ℕ → Result Given LineFault
step_line setup line = and_then (read_step_line line) (if_fits setup)

-- whether a given answer is another than the machine's
abbrev pub contradicts : Option Answer → Answer → Bool
contradicts None answer = false
contradicts (Some given) answer = not (same_answer given answer)

-- a line judged: its fault, or that its answer differs, or its reply, and then the lines after it
abbrev pub judge_line : SetupParts → MachineState → ℕ → Result Given LineFault → (MachineState → Judged) → Judged
judge_line setup g number (Err fault) more = stopped (bad_line number fault)
judge_line setup g number (Ok given) more =
    if contradicts given.answer (reply setup g given.step).answer then stopped (differs number)
    else after_text (entry_text (reply setup g given.step)) (more (state_after setup g given.step))

-- the lines of a trace, from a state and a line number on
abbrev pub judge_lines : SetupParts → Stop → List ℕ → ℕ → List (List ℕ) → MachineState → Judged
judge_lines setup stop rest number [] g = stopped (status_after_lines stop number rest)
judge_lines setup stop rest number (l ∷ ls) g =
    judge_line setup g number (step_line setup l) (judge_lines setup stop rest (suc number) ls)

-- the most bytes of the setup line, without its newline
abbrev pub setup_limit : ℕ
setup_limit = setup_bytes

-- what the setup line reads as
abbrev pub read_setup_line : List ℕ → Result SetupParts SetupFault
read_setup_line line = if nat_lt setup_limit (length line) then Err setup_faults.Long else read_setup_text line

-- the setup line judged: its fault, or its canonical text, and then the lines after it
abbrev pub judge_setup : Result SetupParts SetupFault → (SetupParts → Judged) → Judged
judge_setup (Err fault) more = stopped (bad_setup fault)
judge_setup (Ok setup) more = after_text (setup_text setup ++ newline) (more setup)

-- without a whole first line: it is too long, or the stop decides; an empty input is unfinished, too
abbrev pub status_without_setup : Stop → List ℕ → Status
status_without_setup stop rest =
    if nat_lt setup_limit (length rest) then bad_setup setup_faults.Long
    else status_at_stop stop (bad_setup setup_faults.Unfinished) rest (bad_setup setup_faults.Unfinished)

-- the lines of an input, judged in order
abbrev pub judge_trace : Stop → List ℕ → List (List ℕ) → Judged
judge_trace stop rest [] = stopped (status_without_setup stop rest)
judge_trace stop rest (l ∷ ls) =
    judge_setup (read_setup_line l) (λ setup. judge_lines setup stop rest 2 ls (empty_machine setup))

-- what a trace comes to, its output and its status
abbrev pub judged : List ℕ → Stop → Judged
judged bytes stop = judge_trace stop (text_lines bytes).rest (text_lines bytes).whole

-- the output of a trace
abbrev pub Out : List ℕ → Stop → List ℕ
Out bytes stop = (judged bytes stop).out

-- the status of a trace
abbrev pub StatusOf : List ℕ → Stop → Status
StatusOf bytes stop = (judged bytes stop).status

-- what replay comes to: the output and the status of an input that is read to its end
abbrev pub Replay : List ℕ → Judged
Replay bytes = judged bytes end_met

-- what the lines of a run say together
pub record RunLines : Type 0 where
  pub programs : List Program
  pub powers : List PowerAt

-- the run spans of a program, added up
abbrev pub run_spans : List ℕ → ℕ
run_spans [] = 0
run_spans (run ∷ []) = run
run_spans (run ∷ sleep ∷ rest) = run + run_spans rest

-- the run spans of some programs, added up
abbrev pub run_sum : List Program → ℕ
run_sum ps = sum_by (λ (p : Program). run_spans p.spans) ps

-- whether a program's group and bound cluster are there
abbrev pub program_fits : SetupParts → Program → Bool
program_fits setup p = nat_lt p.group (group_count setup) && option_map_or (λ c. nat_lt c (cluster_count setup)) p.bound true

-- whether the setup and the earlier lines leave room for a program: its name is unused, one more thread may live, and the work is not too much
abbrev pub program_is_new : SetupParts → RunLines → Program → Bool
program_is_new setup so p =
    not (list_any (λ (q : Program). q.name == p.name) so.programs)
    && (nat_lt (length so.programs) setup.threads && nat_le (run_sum so.programs + run_spans p.spans) most_run_work)

-- whether the setup and the earlier lines leave room for a power: its cluster is there, and has no other at that turn
abbrev pub power_is_new : SetupParts → RunLines → PowerAt → Bool
power_is_new setup so p =
    nat_lt p.cluster (cluster_count setup)
    && not (list_any (λ (q : PowerAt). (q.cluster == p.cluster) && (q.turn == p.turn)) so.powers)

-- the lines with one more, or that it is out of range
abbrev pub with_run_line : SetupParts → RunLines → RunSays → Result RunLines LineFault
with_run_line setup so (program_line p) =
    if program_fits setup p && program_is_new setup so p then Ok (record so { programs = so.programs ++ p ∷ [] }) else Err line_faults.Range
with_run_line setup so (power_line p) =
    if power_is_new setup so p then Ok (record so { powers = so.powers ++ p ∷ [] }) else Err line_faults.Range

-- the lines with a further line, which is read
abbrev pub run_line : SetupParts → RunLines → List ℕ → Result RunLines LineFault
run_line setup so line = and_then (read_run_line line) (with_run_line setup so)

-- the lines at the end, or the status
abbrev pub ended_run : RunLines → Status → Result RunLines Status
ended_run so done = Ok so
ended_run so status = Err status

-- a line before more lines: its fault decides
abbrev pub run_goes_on : ℕ → Result RunLines LineFault → (RunLines → Result RunLines Status) → Result RunLines Status
run_goes_on number (Err fault) more = Err (bad_line number fault)
run_goes_on number (Ok so) more = more so

-- what the lines of a run say, from a line number on, or the status
abbrev pub run_lines_from : SetupParts → Stop → List ℕ → ℕ → List (List ℕ) → RunLines → Result RunLines Status
run_lines_from setup stop rest number [] so = ended_run so (status_after_lines stop number rest)
run_lines_from setup stop rest number (l ∷ ls) so =
    run_goes_on number (run_line setup so l) (run_lines_from setup stop rest (suc number) ls)

-- the setup of a run, and its lines
pub record RunInput : Type 0 where
  pub setup : SetupParts
  pub lines : RunLines

-- the setup with a run's lines, or the status
abbrev pub with_setup : SetupParts → Result RunLines Status → Result RunInput Status
with_setup setup (Ok so) = Ok (record { setup = setup; lines = so })
with_setup setup (Err status) = Err status

-- the setup line of a run's input before more lines: its fault decides
abbrev pub run_from_setup : Result SetupParts SetupFault → (SetupParts → Result RunLines Status) → Result RunInput Status
run_from_setup (Err fault) more = Err (bad_setup fault)
run_from_setup (Ok setup) more = with_setup setup (more setup)

-- what a run's lines come to, the setup line first
abbrev pub run_input_of : Stop → List ℕ → List (List ℕ) → Result RunInput Status
run_input_of stop rest [] = Err (status_without_setup stop rest)
run_input_of stop rest (l ∷ ls) =
    run_from_setup (read_setup_line l) (λ setup. run_lines_from setup stop rest 2 ls (record { programs = []; powers = [] }))

-- the setup of a run's input with its lines, or its status
abbrev pub run_input : List ℕ → Stop → Result RunInput Status
run_input bytes stop = run_input_of stop (text_lines bytes).rest (text_lines bytes).whole

-- the status of a run's input, by what it comes to
abbrev pub status_of_run : Result RunInput Status → Status
status_of_run (Ok input) = done
status_of_run (Err status) = status

-- the status of a run's input
abbrev pub RunStatus : List ℕ → Stop → Status
RunStatus bytes stop = status_of_run (run_input bytes stop)

-- the text of a run: the canonical setup line, and its entries
abbrev pub RunText : SetupParts → List Entry → List ℕ
RunText setup history = setup_text setup ++ newline ++ flat_map entry_text history
