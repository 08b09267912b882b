-- Lines answered one after another, and what ends them.
use Rattle.std.proofs.Common.{◌≡◌, ◌∙◌, ℕ, zero, suc, ◌+◌, ◌-◌, ◌≤◌, List, min, [], ◌∷◌, ◌++◌, Ok, false, length, length-append, take, arith, ap, append_assoc, append-nil, refl, sym, subst, inl, inr}
use Rattle.std.proofs.lemmas.Bool.{cases_lt}
use Rattle.std.proofs.lemmas.Bool.Decides.{nat_tests}
use Rattle.std.proofs.lemmas.List.{get_or-take, length-take, take-append-le, take-take, take_all, take_at}
use Rattle.sched_base.specs.Limits.{input_bytes}
use Rattle.flat_policy.specs.Policy.Machine.{MachineState, reply, state_after}
use Rattle.flat_policy.specs.Policy.Setup.{SetupParts}
use Rattle.flat_policy.specs.Texts.Lines.{entry_text, line_limit}
use Rattle.flat_policy.specs.Texts.Streams.{Judged, StatusOf, Stop, after_text, contradicts, fault_met, judge_line, judge_lines, judged, read_fault, status_after_lines, step_line, stopped, text_lines}
use Rattle.flat_policy.specs.declared.texts.Given.{Given}
use Rattle.ports.specs.Lines.{HasNoNewline}
use Rattle.trace_replay.specs.SoFar.{SoFar}
use Rattle.trace_replay.proofs.TextLines.{line_first, no_line}

-- texts before an output, one after the other
pub after_both : (a b : List ℕ) (j : Judged) → after_text a (after_text b j) ≡ after_text (a ++ b) j
after_both a b j = ap (λ (out : List ℕ). record { out = out; status = j.status }) (sym (append_assoc a b j.out))

-- more bytes taken than there are of the first
pub take_past : (a b : List ℕ) (m : ℕ) → length a ≤ m → take m (a ++ b) ≡ a ++ take (m - length a) b
take_past [] b m past = let same : m ≡ m - 0 = omega arith in ap (λ n. take n b) same
take_past (x ∷ a) b zero past = absurd (omega (arith, past))
take_past (x ∷ a) b (suc m) past =
    let same : m - length a ≡ suc m - suc (length a) = omega arith in
    ap (λ (bs : List ℕ). x ∷ bs) (take_past a b m (omega (arith, past)) ∙ ap (λ n. a ++ take n b) same)

-- what the lines of some bytes come to, from a line of this number and a state on
abbrev pub judged_from : SetupParts → Stop → ℕ → MachineState → List ℕ → Judged
judged_from setup stop number g tail = judge_lines setup stop (text_lines tail).rest number (text_lines tail).whole g

-- the bytes of a whole line
abbrev pub whole_line : List ℕ → List ℕ
whole_line line = line ++ 10 ∷ []

pub line_and_more : (line tail : List ℕ) → whole_line line ++ tail ≡ line ++ 10 ∷ tail
line_and_more line tail = append_assoc line (10 ∷ []) tail

-- a whole line is judged first
pub from_line : (setup : SetupParts) (stop : Stop) (number : ℕ) (g : MachineState) (line tail : List ℕ) → HasNoNewline line
    → judged_from setup stop number g (whole_line line ++ tail) ≡ judge_line setup g number (step_line setup line) (λ h. judged_from setup stop (suc number) h tail)
from_line setup stop number g line tail plain = rw (line_and_more line tail, line_first line tail plain) refl

-- bytes of one line that is not at its end
pub from_part : (setup : SetupParts) (stop : Stop) (number : ℕ) (g : MachineState) (part : List ℕ) → HasNoNewline part
    → judged_from setup stop number g part ≡ stopped (status_after_lines stop number part)
from_part setup stop number g part plain = rw (no_line part plain) refl

pub fault_after : (number : ℕ) (part : List ℕ) → length part ≤ line_limit → status_after_lines fault_met number part ≡ read_fault
fault_after number part short = grind (arith, nat_tests)

-- a line that goes
pub line_goes : (setup : SetupParts) (number : ℕ) (g : MachineState) (line : List ℕ) (given : Given) (more : MachineState → Judged) → step_line setup line ≡ Ok given
    → contradicts given.answer (reply setup g given.step).answer ≡ false
    → judge_line setup g number (step_line setup line) more ≡ after_text (entry_text (reply setup g given.step)) (more (state_after setup g given.step))
line_goes setup number g line given more ok same = rw (ok, same) refl

-- ---- before the end of the lines

-- a front of bytes without a newline
pub plain_front : (k : ℕ) (bytes : List ℕ) → HasNoNewline bytes → HasNoNewline (take k bytes)
plain_front k bytes plain i d below is =
    let long : length (take k bytes) ≡ min k (length bytes) = length-take k bytes in
    plain i d (omega (arith, below, long)) (sym (get_or-take k bytes i d (omega (arith, below, long))) ∙ is)

-- bytes behind the lines, of which the first few have no newline
pub still_undecided : (setup : SetupParts) (bytes text : List ℕ) (number : ℕ) (g : MachineState) (tail : List ℕ) (j m : ℕ) → SoFar setup bytes text number g
    → HasNoNewline (take j tail) → j ≤ line_limit → m ≤ length bytes + j → StatusOf (take m (bytes ++ tail)) fault_met ≡ read_fault
still_undecided setup bytes text number g tail j m so plain short few =
    elim (cases_lt m (length bytes)) [
      | inl within ↦ ap (λ bs. StatusOf bs fault_met) (take-append-le m bytes tail (omega (arith, within))) ∙ so.undecided m
      | inr past ↦
          let k : ℕ = m - length bytes in
          let front : take k (take j tail) ≡ take k tail = take-take k j tail (omega (arith, few)) in
          let part : HasNoNewline (take k tail) = subst HasNoNewline front (plain_front k (take j tail) plain) in
          ap (λ bs. StatusOf bs fault_met) (take_past bytes tail m past)
          ∙ ap (λ (j : Judged). j.status) (so.goes (take k tail) fault_met)
          ∙ ap (λ (j : Judged). (after_text text j).status) (from_part setup fault_met number g (take k tail) part)
          ∙ fault_after number (take k tail) (omega (arith, length-take k tail, few, short))
    ]

-- all of a line and its newline are behind the lines
undecided_next : (setup : SetupParts) (bytes text : List ℕ) (number : ℕ) (g : MachineState) (line : List ℕ) (m : ℕ) → SoFar setup bytes text number g
    → HasNoNewline line → length line ≤ line_limit → StatusOf (bytes ++ whole_line line) fault_met ≡ read_fault
    → StatusOf (take m (bytes ++ whole_line line)) fault_met ≡ read_fault
undecided_next setup bytes text number g line m so plain short all =
    elim (cases_lt (length bytes + length line) m) [
      | inl past ↦
          ap (λ bs. StatusOf bs fault_met)
          (take_all m (bytes ++ whole_line line) (omega (arith, past, length-append bytes (whole_line line), length-append line (10 ∷ []))))
          ∙ all
      | inr few ↦
          still_undecided setup bytes text number g (whole_line line) (length line) m so
          (subst HasNoNewline (sym (take_at line (10 ∷ []) (length line) refl)) plain) short (omega (arith, few))
    ]

-- one line more
pub so_far_next : (setup : SetupParts) (bytes text : List ℕ) (number : ℕ) (g : MachineState) (line : List ℕ) (given : Given) → SoFar setup bytes text number g
    → HasNoNewline line → length line ≤ line_limit → length bytes + length line + 1 ≤ input_bytes → step_line setup line ≡ Ok given
    → contradicts given.answer (reply setup g given.step).answer ≡ false
    → SoFar setup (bytes ++ whole_line line) (text ++ entry_text (reply setup g given.step)) (suc number) (state_after setup g given.step)
so_far_next setup bytes text number g line given so plain short within ok same =
    let entry : List ℕ = entry_text (reply setup g given.step) in
    let goes : (tail : List ℕ) (stop : Stop) → judged ((bytes ++ whole_line line) ++ tail) stop ≡ after_text (text ++ entry) (judged_from setup stop (suc number) (state_after setup g given.step) tail) =
    λ tail stop. ap (λ bs. judged bs stop) (append_assoc bytes (whole_line line) tail)
    ∙ so.goes (whole_line line ++ tail) stop
    ∙ ap (λ j. after_text text j) (from_line setup stop number g line tail plain ∙ line_goes setup number g line given (λ h. judged_from setup stop (suc number) h tail) ok same)
    ∙ after_both text entry (judged_from setup stop (suc number) (state_after setup g given.step) tail) in
    let all : StatusOf (bytes ++ whole_line line) fault_met ≡ read_fault =
    ap (λ bs. StatusOf bs fault_met) (sym (append-nil (bytes ++ whole_line line)))
    ∙ ap (λ (j : Judged). j.status) (goes [] fault_met)
    ∙ fault_after (suc number) [] (omega arith) in
    record {
      within = omega (arith, within, length-append bytes (whole_line line), length-append line (10 ∷ []));
      goes = goes;
      undecided = λ m. undecided_next setup bytes text number g line m so plain short all;
    }
