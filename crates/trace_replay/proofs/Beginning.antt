-- The setup line, and what comes in its place.
use Rattle.std.proofs.Common.{◌≡◌, ◌∙◌, ℕ, suc, ◌+◌, ◌-◌, ◌<◌, ◌≤◌, List, [], ◌∷◌, ◌++◌, Err, Ok, length, length-append, take, arith, ap, append_assoc, append-nil, refl, sym, subst, inl, inr}
use Rattle.std.proofs.lemmas.Bool.{cases_lt}
use Rattle.std.proofs.lemmas.Bool.Decides.{nat_tests}
use Rattle.std.proofs.lemmas.List.{length-take, take-append-le, take-take, take_all, take_at}
use Rattle.sched_base.specs.Limits.{input_bytes, piece_bytes}
use Rattle.flat_policy.specs.Policy.Machine.{empty_machine}
use Rattle.flat_policy.specs.Policy.Setup.{SetupParts}
use Rattle.flat_policy.specs.Texts.Lines.{newline}
use Rattle.flat_policy.specs.Texts.SetupLines.{setup_text}
use Rattle.flat_policy.specs.Texts.Streams.{Judged, Status, StatusOf, Stop, TextLines, after_text, bad_setup, fault_met, judge_setup, judge_trace, judged, read_fault, read_setup_line, setup_limit, status_at_stop, status_without_setup, stopped, text_lines}
use Rattle.flat_policy.specs.declared.texts.SetupFault.{SetupFault}
use Rattle.flat_policy.specs.declared.texts.SetupFault.TheVariants as setup_faults
use Rattle.ports.specs.Lines.{HasNoNewline, IsLong, IsOpen}
use Rattle.trace_replay.specs.Replaying.{ComesTo, IsDecided, IsDecidedLate, counting}
use Rattle.trace_replay.specs.SoFar.{SoFar}
use Rattle.trace_replay.proofs.Going.{judged_from, line_and_more, plain_front, take_past, whole_line}
use Rattle.trace_replay.proofs.TextLines.{LongFirst, line_first, long_first, long_line, long_rest, no_line}

-- bytes whose first line is whole
first_whole : (stop : Stop) (line tail : List ℕ) → HasNoNewline line
    → judged (whole_line line ++ tail) stop ≡ judge_setup (read_setup_line line) (λ setup. judged_from setup stop 2 (empty_machine setup) tail)
first_whole stop line tail plain = rw (line_and_more line tail, line_first line tail plain) refl

-- bytes of a first line that is not at its end
first_part : (stop : Stop) (part : List ℕ) → HasNoNewline part → judged part stop ≡ stopped (status_without_setup stop part)
first_part stop part plain = rw (no_line part plain) refl

short_without_setup : (stop : Stop) (rest : List ℕ) → length rest ≤ setup_limit
    → status_without_setup stop rest ≡ status_at_stop stop (bad_setup setup_faults.Unfinished) rest (bad_setup setup_faults.Unfinished)
short_without_setup stop rest short = grind (arith, nat_tests)

fault_without_setup : (rest : List ℕ) → length rest ≤ setup_limit → status_without_setup fault_met rest ≡ read_fault
fault_without_setup rest short = short_without_setup fault_met rest short

-- a front of a first line within the limit decides nothing
pub first_undecided : (tail : List ℕ) (j m : ℕ) → HasNoNewline (take j tail) → j ≤ setup_limit → m ≤ j → StatusOf (take m tail) fault_met ≡ read_fault
first_undecided tail j m plain short few =
    let part : HasNoNewline (take m tail) = subst HasNoNewline (take-take m j tail few) (plain_front m (take j tail) plain) in
    ap (λ (k : Judged). k.status) (first_part fault_met (take m tail) part) ∙ fault_without_setup (take m tail) (omega (arith, length-take m tail, few, short))

line_in_front : (line held : List ℕ) → take (length line) (whole_line line ++ held) ≡ line
line_in_front line held = ap (λ bs. take (length line) bs) (append_assoc line (10 ∷ []) held) ∙ take_at line ((10 ∷ []) ++ held) (length line) refl

-- after a setup line
pub so_far_begin : (line : List ℕ) (setup : SetupParts) → HasNoNewline line → length line ≤ setup_limit → length line + 1 ≤ input_bytes → read_setup_line line ≡ Ok setup
    → SoFar setup (whole_line line) (setup_text setup ++ newline) 2 (empty_machine setup)
so_far_begin line setup plain short within is =
    let text : List ℕ = setup_text setup ++ newline in
    let goes : (tail : List ℕ) (stop : Stop) → judged (whole_line line ++ tail) stop ≡ after_text text (judged_from setup stop 2 (empty_machine setup) tail) =
    λ tail stop. first_whole stop line tail plain ∙ ap (λ r. judge_setup r (λ (s : SetupParts). judged_from s stop 2 (empty_machine s) tail)) is in
    let all : StatusOf (whole_line line) fault_met ≡ read_fault =
    ap (λ bs. StatusOf bs fault_met) (sym (append-nil (whole_line line))) ∙ ap (λ (j : Judged). j.status) (goes [] fault_met) in
    record {
      within = omega (arith, within, length-append line (10 ∷ []));
      goes = goes;
      undecided = λ m. elim (cases_lt (length line) m) [
        | inl past ↦
            ap (λ bs. StatusOf bs fault_met) (take_all m (whole_line line) (omega (arith, past, length-append line (10 ∷ [])))) ∙ all
        | inr few ↦
            first_undecided (whole_line line) (length line) m
            (subst HasNoNewline (sym (take_at line (10 ∷ []) (length line) refl)) plain) short few
      ];
    }

-- where the bytes that count stop with a status, so do all
comes_first : (tail counted : List ℕ) (stop : Stop) (status : Status) → counting tail ≡ counted → judged counted stop ≡ stopped status → ComesTo tail stop [] status
comes_first tail counted stop status is ends =
    let all : judged (counting tail) stop ≡ stopped status = ap (λ bs. judged bs stop) is ∙ ends in
    record { writes = ap (λ (j : Judged). j.out) all; answers = ap (λ (j : Judged). j.status) all }

-- a setup line with a fault
pub setup_decides : (line held : List ℕ) (what : SetupFault) → HasNoNewline line → length line + 1 ≤ input_bytes → read_setup_line line ≡ Err what
    → IsDecided (whole_line line ++ held) [] (bad_setup what)
setup_decides line held what plain within is more stop =
    let long : length (whole_line line) ≡ length line + 1 = length-append line (10 ∷ []) in
    let rest : List ℕ = take (input_bytes - length (whole_line line)) (held ++ more) in
    subst (λ bs. ComesTo bs stop [] (bad_setup what)) (sym (append_assoc (whole_line line) held more))
    (comes_first (whole_line line ++ (held ++ more)) (whole_line line ++ rest) stop (bad_setup what)
    (take_past (whole_line line) (held ++ more) input_bytes (omega (arith, long, within)))
    (first_whole stop line rest plain ∙ ap (λ r. judge_setup r (λ (s : SetupParts). judged_from s stop 2 (empty_machine s) rest)) is))

pub setup_decides_late : (line held : List ℕ) → HasNoNewline line → length line ≤ setup_limit → length held < piece_bytes → IsDecidedLate (whole_line line ++ held)
setup_decides_late line held plain short few =
    first_undecided (whole_line line ++ held) (length line) (length (whole_line line ++ held) - piece_bytes)
    (subst HasNoNewline (sym (line_in_front line held)) plain) short
    (omega (arith, few, length-append (whole_line line) held, length-append line (10 ∷ [])))

-- a first line that is too long
long_first_part : (stop : Stop) (rest : List ℕ) → setup_limit < length rest → status_without_setup stop rest ≡ bad_setup setup_faults.Long
long_first_part stop rest long = grind (arith, nat_tests)

long_first_line : (line : List ℕ) → setup_limit < length line → read_setup_line line ≡ Err setup_faults.Long
long_first_line line long = grind (arith, nat_tests)

judged_long_first : (stop : Stop) (t : TextLines) → LongFirst setup_limit t → judge_trace stop t.rest t.whole ≡ stopped (bad_setup setup_faults.Long)
judged_long_first stop _ (long_rest rest long) = ap stopped (long_first_part stop rest long)
judged_long_first stop _ (long_line line whole rest long) = rw (long_first_line line long) refl

pub long_setup_decides : (held : List ℕ) → IsLong setup_limit (input_bytes - 0) held → IsDecided held [] (bad_setup setup_faults.Long)
long_setup_decides held long more stop =
    let counted : List ℕ = counting (held ++ more) in
    let front : take (suc setup_limit) counted ≡ take (setup_limit + 1) held =
    take-take (suc setup_limit) input_bytes (held ++ more) (omega arith) ∙ take-append-le (suc setup_limit) held more (omega (arith, long.reached)) in
    comes_first (held ++ more) counted stop (bad_setup setup_faults.Long) refl
    (judged_long_first stop (text_lines counted)
    (long_first setup_limit counted (subst HasNoNewline (sym front) long.plain)
    (omega (arith, length-take input_bytes (held ++ more), length-append held more, long.reached))))

pub long_setup_decides_late : (held : List ℕ) → IsLong setup_limit (input_bytes - 0) held → length held < setup_limit + 1 + piece_bytes → IsDecidedLate held
long_setup_decides_late held long few =
    first_undecided held setup_limit (length held - piece_bytes)
    (subst HasNoNewline (take-take setup_limit (setup_limit + 1) held (omega arith)) (plain_front setup_limit (take (setup_limit + 1) held) long.plain))
    (omega arith)
    (omega (arith, few))

-- bytes of a first line that is not at its end
pub open_first_comes : (held : List ℕ) (stop : Stop) → IsOpen setup_limit (input_bytes - 0) held
    → ComesTo held stop [] (status_at_stop stop (bad_setup setup_faults.Unfinished) held (bad_setup setup_faults.Unfinished))
open_first_comes held stop open_still =
    comes_first held held stop (status_at_stop stop (bad_setup setup_faults.Unfinished) held (bad_setup setup_faults.Unfinished))
    (take_all input_bytes held (omega (arith, open_still.counts)))
    (first_part stop held open_still.plain ∙ ap stopped (short_without_setup stop held open_still.short))
