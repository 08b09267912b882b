-- What ends the lines of a trace.
use Rattle.std.proofs.Common.{◌≡◌, ◌≢◌, ◌∙◌, ℕ, suc, ◌+◌, ◌-◌, ◌<◌, ◌≤◌, List, [], ◌∷◌, ◌++◌, Err, Ok, length, length-append, take, arith, ap, append_assoc, append-nil, refl, sym, subst, true}
use Rattle.std.proofs.lemmas.Bool.Decides.{nat_tests}
use Rattle.std.proofs.lemmas.List.{length-take, take-append-le, take-take, take_all, take_at}
use Rattle.sched_base.specs.Limits.{input_bytes, piece_bytes}
use Rattle.flat_policy.specs.Policy.Machine.{MachineState, reply}
use Rattle.flat_policy.specs.Policy.Setup.{SetupParts}
use Rattle.flat_policy.specs.Texts.Lines.{line_limit}
use Rattle.flat_policy.specs.Texts.Streams.{Judged, Out, Status, StatusOf, Stop, TextLines, after_text, bad_line, contradicts, differs, done, end_met, fault_met, judge_line, judge_lines, judged, over_met, read_fault, status_after_lines, status_at_stop, step_line, stopped, text_lines, too_long}
use Rattle.flat_policy.specs.declared.texts.Given.{Given}
use Rattle.flat_policy.specs.declared.texts.LineFault.{LineFault}
use Rattle.flat_policy.specs.declared.texts.LineFault.TheVariants as line_faults
use Rattle.ports.specs.Lines.{HasNoNewline, IsLong, IsOpen, IsOver}
use Rattle.trace_replay.specs.Replaying.{ComesTo, HasFault, IsDecided, IsDecidedLate, IsFront, IsReadTo, counting}
use Rattle.trace_replay.specs.SoFar.{SoFar}
use Rattle.trace_replay.proofs.Going.{from_line, from_part, judged_from, plain_front, still_undecided, take_past, whole_line}
use Rattle.trace_replay.proofs.TextLines.{LongFirst, long_first, long_line, long_rest}

-- where the bytes that count behind some lines come to a status, so do all
pub comes : (setup : SetupParts) (bytes text : List ℕ) (number : ℕ) (g : MachineState) (tail counted : List ℕ) (stop : Stop) (status : Status) → SoFar setup bytes text number g
    → take (input_bytes - length bytes) tail ≡ counted → judged_from setup stop number g counted ≡ stopped status → ComesTo (bytes ++ tail) stop text status
comes setup bytes text number g tail counted stop status so is ends =
    let all : judged (counting (bytes ++ tail)) stop ≡ after_text text (stopped status) =
    ap (λ bs. judged bs stop) (take_past bytes tail input_bytes so.within ∙ ap (λ bs. bytes ++ bs) is)
    ∙ so.goes counted stop
    ∙ ap (λ j. after_text text j) ends in
    record { writes = ap (λ (j : Judged). j.out) all ∙ append-nil text; answers = ap (λ (j : Judged). j.status) all }

-- what is decided is a fault
pub decided_fault : (bytes text : List ℕ) (status : Status) → IsDecided bytes text status → status ≢ read_fault → HasFault bytes
decided_fault bytes text status decided other none =
    other (sym (decided [] fault_met).answers ∙ ap (λ bs. StatusOf (counting bs) fault_met) (append-nil bytes) ∙ none)

-- a line that is faulty or whose answer differs
pub line_decides : (setup : SetupParts) (bytes text : List ℕ) (number : ℕ) (g : MachineState) (line held : List ℕ) (status : Status) → SoFar setup bytes text number g
    → HasNoNewline line → length bytes + length line + 1 ≤ input_bytes
    → ((more : MachineState → Judged) → judge_line setup g number (step_line setup line) more ≡ stopped status)
    → IsDecided (bytes ++ (whole_line line ++ held)) text status
line_decides setup bytes text number g line held status so plain within faulty more stop =
    let c : ℕ = input_bytes - length bytes in
    let long : length (whole_line line) ≡ length line + 1 = length-append line (10 ∷ []) in
    let rest : List ℕ = take (c - length (whole_line line)) (held ++ more) in
    let shift : (bytes ++ (whole_line line ++ held)) ++ more ≡ bytes ++ (whole_line line ++ (held ++ more)) =
    append_assoc bytes (whole_line line ++ held) more ∙ ap (λ bs. bytes ++ bs) (append_assoc (whole_line line) held more) in
    subst (λ bs. ComesTo bs stop text status) (sym shift)
    (comes setup bytes text number g (whole_line line ++ (held ++ more)) (whole_line line ++ rest) stop status so
    (take_past (whole_line line) (held ++ more) c (omega (arith, long, within)))
    (from_line setup stop number g line rest plain ∙ faulty (λ h. judged_from setup stop (suc number) h rest)))

-- fewer bytes than a piece were taken behind the line that decided
pub line_decides_late : (setup : SetupParts) (bytes text : List ℕ) (number : ℕ) (g : MachineState) (line held : List ℕ) → SoFar setup bytes text number g
    → HasNoNewline line → length line ≤ line_limit → length held < piece_bytes → IsDecidedLate (bytes ++ (whole_line line ++ held))
line_decides_late setup bytes text number g line held so plain short few =
    let tail : List ℕ = whole_line line ++ held in
    still_undecided setup bytes text number g tail (length line) (length (bytes ++ tail) - piece_bytes) so
    (subst HasNoNewline (sym (ap (λ bs. take (length line) bs) (append_assoc line (10 ∷ []) held) ∙ take_at line ((10 ∷ []) ++ held) (length line) refl)) plain)
    short
    (omega (arith, few, length-append bytes tail, length-append (whole_line line) held, length-append line (10 ∷ [])))

-- a line that is faulty by itself
pub faulty_line : (setup : SetupParts) (number : ℕ) (g : MachineState) (line : List ℕ) (what : LineFault) → step_line setup line ≡ Err what
    → (more : MachineState → Judged) → judge_line setup g number (step_line setup line) more ≡ stopped (bad_line number what)
faulty_line setup number g line what is more = rw is refl

-- a line whose answer differs
pub differing_line : (setup : SetupParts) (number : ℕ) (g : MachineState) (line : List ℕ) (given : Given) → step_line setup line ≡ Ok given
    → contradicts given.answer (reply setup g given.step).answer ≡ true
    → (more : MachineState → Judged) → judge_line setup g number (step_line setup line) more ≡ stopped (differs number)
differing_line setup number g line given ok other more = rw (ok, other) refl

-- ---- a line that is too long

long_part : (stop : Stop) (number : ℕ) (rest : List ℕ) → line_limit < length rest → status_after_lines stop number rest ≡ bad_line number line_faults.Long
long_part stop number rest long = grind (arith, nat_tests)

long_step : (setup : SetupParts) (line : List ℕ) → line_limit < length line → step_line setup line ≡ Err line_faults.Long
long_step setup line long = grind (arith, nat_tests)

judged_long : (setup : SetupParts) (stop : Stop) (number : ℕ) (g : MachineState) (t : TextLines) → LongFirst line_limit t
    → judge_lines setup stop t.rest number t.whole g ≡ stopped (bad_line number line_faults.Long)
judged_long setup stop number g _ (long_rest rest long) = ap stopped (long_part stop number rest long)
judged_long setup stop number g _ (long_line line whole rest long) = rw (long_step setup line long) refl

pub long_decides : (setup : SetupParts) (bytes text : List ℕ) (number : ℕ) (g : MachineState) (held : List ℕ) → SoFar setup bytes text number g
    → IsLong line_limit (input_bytes - length bytes) held → IsDecided (bytes ++ held) text (bad_line number line_faults.Long)
long_decides setup bytes text number g held so long more stop =
    let c : ℕ = input_bytes - length bytes in
    let counted : List ℕ = take c (held ++ more) in
    let front : take (suc line_limit) counted ≡ take (line_limit + 1) held =
    take-take (suc line_limit) c (held ++ more) (omega (arith, long.counts))
    ∙ take-append-le (suc line_limit) held more (omega (arith, long.reached)) in
    subst (λ bs. ComesTo bs stop text (bad_line number line_faults.Long)) (sym (append_assoc bytes held more))
    (comes setup bytes text number g (held ++ more) counted stop (bad_line number line_faults.Long) so refl
    (judged_long setup stop number g (text_lines counted)
    (long_first line_limit counted (subst HasNoNewline (sym front) long.plain)
    (omega (arith, length-take c (held ++ more), length-append held more, long.reached, long.counts)))))

pub long_decides_late : (setup : SetupParts) (bytes text : List ℕ) (number : ℕ) (g : MachineState) (held : List ℕ) → SoFar setup bytes text number g
    → IsLong line_limit (input_bytes - length bytes) held → length held < line_limit + 1 + piece_bytes → IsDecidedLate (bytes ++ held)
long_decides_late setup bytes text number g held so long few =
    still_undecided setup bytes text number g held line_limit (length (bytes ++ held) - piece_bytes) so
    (subst HasNoNewline (take-take line_limit (line_limit + 1) held (omega arith)) (plain_front line_limit (take (line_limit + 1) held) long.plain))
    (omega arith)
    (omega (arith, few, length-append bytes held))

-- ---- the ends of the bytes

pub short_part : (stop : Stop) (number : ℕ) (rest : List ℕ) → length rest ≤ line_limit
    → status_after_lines stop number rest ≡ status_at_stop stop (bad_line number line_faults.Unfinished) rest done
short_part stop number rest short = grind (arith, nat_tests)

-- bytes of a line that is not at its end
pub open_comes : (setup : SetupParts) (bytes text : List ℕ) (number : ℕ) (g : MachineState) (held : List ℕ) (stop : Stop) → SoFar setup bytes text number g
    → IsOpen line_limit (input_bytes - length bytes) held
    → ComesTo (bytes ++ held) stop text (status_at_stop stop (bad_line number line_faults.Unfinished) held done)
open_comes setup bytes text number g held stop so open_still =
    comes setup bytes text number g held held stop (status_at_stop stop (bad_line number line_faults.Unfinished) held done) so
    (take_all (input_bytes - length bytes) held open_still.counts)
    (from_part setup stop number g held open_still.plain ∙ ap stopped (short_part stop number held open_still.short))

-- the bytes of a line go on past those that count
pub over_comes : (setup : SetupParts) (bytes text : List ℕ) (number : ℕ) (g : MachineState) (held : List ℕ) → SoFar setup bytes text number g
    → IsOver line_limit (input_bytes - length bytes) held → ComesTo (bytes ++ held) over_met text too_long
over_comes setup bytes text number g held so over =
    let c : ℕ = input_bytes - length bytes in
    comes setup bytes text number g held (take c held) over_met too_long so refl
    (from_part setup over_met number g (take c held) over.plain
    ∙ ap stopped (short_part over_met number (take c held) (omega (arith, length-take c held, over.short))))

-- no line is faulty so far, and few bytes are behind the lines
pub read_to : (setup : SetupParts) (bytes text : List ℕ) (number : ℕ) (g : MachineState) (tail : List ℕ) → SoFar setup bytes text number g
    → length tail < piece_bytes → IsReadTo (bytes ++ tail) (length bytes)
read_to setup bytes text number g tail so few = record {
  lines = ap (λ bs. StatusOf bs end_met) (take_at bytes tail (length bytes) refl ∙ sym (append-nil bytes))
      ∙ ap (λ (j : Judged). j.status) (so.goes [] end_met)
      ∙ short_part end_met number [] (omega arith);
  ahead = omega (arith, few, length-append bytes tail);
}

-- a front of what was written for the lines is a front of the output
pub front_so_far : (setup : SetupParts) (bytes text : List ℕ) (number : ℕ) (g : MachineState) (tail front rest : List ℕ) → SoFar setup bytes text number g
    → text ≡ front ++ rest → IsFront (bytes ++ tail) front
front_so_far setup bytes text number g tail front rest so is =
    let counted : List ℕ = take (input_bytes - length bytes) tail in
    let j : Judged = judged_from setup end_met number g counted in
    let out : Out (counting (bytes ++ tail)) end_met ≡ front ++ (rest ++ j.out) =
    ap (λ bs. Out bs end_met) (take_past bytes tail input_bytes so.within)
    ∙ ap (λ (k : Judged). k.out) (so.goes counted end_met)
    ∙ ap (λ (t : List ℕ). t ++ j.out) is
    ∙ append_assoc front rest j.out in
    ap (λ (t : List ℕ). take (length front) t) out ∙ take_at front (rest ++ j.out) (length front) refl
