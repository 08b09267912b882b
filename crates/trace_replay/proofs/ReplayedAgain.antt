-- What is written for an input without a fault is, as an input, answered by itself.
use Rattle.std.proofs.Common.{◌≡◌, ℕ, List, [], ◌∷◌, ◌++◌, Bool, true, false, cond, Result, Ok, Err, IfOk, length, nat_lt, refl, ap, ◌∙◌, subst}
use Rattle.flat_policy.specs.declared.texts.SetupFault.{SetupFault}
use Rattle.flat_policy.specs.Policy.BuiltSetups.{IsSetup}
use Rattle.flat_policy.specs.Policy.Machine.{empty_machine}
use Rattle.flat_policy.specs.Policy.Setup.{SetupParts}
use Rattle.flat_policy.specs.Texts.Lines.{newline}
use Rattle.flat_policy.specs.Texts.SetupLines.{read_setup_text, setup_text}
use Rattle.flat_policy.specs.Texts.Streams.{Judged, Replay, TextLines, after_text, bad_setup, done, end_met, judge_lines, judge_setup, judge_trace, read_setup_line, setup_limit, text_lines, unfinished_or}
use Rattle.setup_json.specs.Laws.{ReadSetupsAreBuilt, SetupLinesReadAgain, SetupsStandInLines}
use Rattle.trace_replay.proofs.LinesAgain.{Again, LineLaws, lines_again}
use Rattle.trace_replay.specs.Laws.{ReplayIsIdempotent}
use Rattle.flat_policy.specs.declared.texts.SetupFault.TheVariants as setup_faults

-- the laws of setup lines
pub record SetupLaws : Type 0 where
  pub stand : SetupsStandInLines
  pub read : SetupLinesReadAgain
  pub built : ReadSetupsAreBuilt

built_line : (long : Bool) (r : Result SetupParts SetupFault) → ((s : SetupParts) → r ≡ Ok s → IsSetup s) → IfOk (cond long (Err setup_faults.Long) r) IsSetup
built_line true r is = tt
built_line false (Err fault) is = tt
built_line false (Ok s) is = is s refl

-- without a setup line an input is not done
unfinished_not_done : (rest : List ℕ) (fault : SetupFault) → unfinished_or (bad_setup fault) rest (bad_setup fault) ≡ done → ⊥
unfinished_not_done [] fault h = cc
unfinished_not_done (b ∷ bs) fault h = cc

never_done : (long : Bool) (rest : List ℕ) → cond long (bad_setup setup_faults.Long) (unfinished_or (bad_setup setup_faults.Unfinished) rest (bad_setup setup_faults.Unfinished)) ≡ done → ⊥
never_done true rest h = cc
never_done false rest h = unfinished_not_done rest setup_faults.Unfinished h

-- what a text comes to as an input is itself
abbrev IsItsReplay : List ℕ → Type 0
IsItsReplay text = Replay text ≡ record { out = text; status = done }

written_again : (setup : SetupParts) (out : List ℕ) → SetupLaws → IsSetup setup → Again setup (empty_machine setup) out → IsItsReplay (setup_text setup ++ newline ++ out)
written_again setup out laws is again =
    let more : TextLines → SetupParts → Judged = λ t s. judge_lines s end_met t.rest 2 t.whole (empty_machine s) in
    ap (λ (t : TextLines). judge_trace end_met t.rest t.whole) (laws.stand setup out is)
    ∙ ap (λ r. judge_setup r (more (text_lines out))) (laws.read setup is)
    ∙ ap (after_text (setup_text setup ++ newline)) (again 2)

setup_again : (rest : List ℕ) (ls : List (List ℕ)) (r : Result SetupParts SetupFault) → SetupLaws → LineLaws → IfOk r IsSetup
    → (judge_setup r (λ setup. judge_lines setup end_met rest 2 ls (empty_machine setup))).status ≡ done
    → IsItsReplay (judge_setup r (λ setup. judge_lines setup end_met rest 2 ls (empty_machine setup))).out
setup_again rest ls (Err fault) setups lines is ended = absurd cc
setup_again rest ls (Ok setup) setups lines is ended =
    written_again setup (judge_lines setup end_met rest 2 ls (empty_machine setup)).out setups is
    (lines_again setup rest 2 ls lines is (empty_machine setup) [] refl ended)

trace_again : (rest : List ℕ) (whole : List (List ℕ)) → SetupLaws → LineLaws → (judge_trace end_met rest whole).status ≡ done → IsItsReplay (judge_trace end_met rest whole).out
trace_again rest [] setups lines ended = absurd (never_done (nat_lt setup_limit (length rest)) rest ended)
trace_again rest (l ∷ ls) setups lines ended =
    setup_again rest ls (read_setup_line l) setups lines (built_line (nat_lt setup_limit (length l)) (read_setup_text l) (setups.built l)) ended

pub replayed_again : SetupLaws → LineLaws → ReplayIsIdempotent
replayed_again setups lines = λ bytes text is.
    let ended : (Replay bytes).status ≡ done = ap (λ (j : Judged). j.status) is in
    let written : (Replay bytes).out ≡ text = ap (λ (j : Judged). j.out) is in
    subst IsItsReplay written (trace_again (text_lines bytes).rest (text_lines bytes).whole setups lines ended)
