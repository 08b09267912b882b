-- A line that says a step alone is its text.
use Rattle.std.proofs.Common.{◌≡◌, ◌∙◌, ◌++◌, List, None, Ok, ap, append_assoc, codes, sym, ℕ}
use Rattle.flat_policy.specs.Texts.Answers.{answer_text}
use Rattle.flat_policy.specs.Texts.Lines.{answered_text, newline, read_step_line}
use Rattle.flat_policy.specs.Texts.Steps.{step_text}
use Rattle.flat_policy.specs.declared.texts.Given.{Given}
use Rattle.trace_machine.specs.declared.Reply.{Reply}
use Rattle.trace_replay.specs.Traces.{moved}
use Rattle.trace_text.specs.Laws.{LinesAreExact, given_line}
use Rattle.trace_text.specs.Writing.{answer_part}

-- where its moment stays, it is that of the reply's step
pub said_again : (line : List ℕ) (given : Given) (told : Reply) → LinesAreExact → read_step_line line ≡ Ok given → given.step.moment ≡ told.moment → given.answer ≡ None
    → line ≡ step_text (moved given.step told)
said_again line given told exact says same alone =
    ((exact line given).0 says).1 ∙ ap (given_line given.step) alone ∙ ap (λ (m : ℕ). step_text (record { moment = m; actor = given.step.actor; act = given.step.act })) same

joined : (old step equals answer end : List ℕ) → old ++ step ++ (equals ++ answer ++ end) ≡ old ++ (step ++ equals ++ answer ++ end)
joined old step equals answer end =
    append_assoc old step (equals ++ answer ++ end)
    ∙ ap (λ (text : List ℕ). old ++ text) (sym (append_assoc step (equals ++ answer) end) ∙ ap (λ (text : List ℕ). text ++ end) (sym (append_assoc step equals answer)))

-- and with the answer it is the reply's text
pub reply_again : (old line : List ℕ) (given : Given) (told : Reply) → LinesAreExact → read_step_line line ≡ Ok given → given.step.moment ≡ told.moment → given.answer ≡ None
    → old ++ line ++ answer_part told.answer ≡ old ++ answered_text (moved given.step told) told.answer
reply_again old line given told exact says same alone =
    ap (λ (text : List ℕ). old ++ text ++ answer_part told.answer) (said_again line given told exact says same alone)
    ∙ joined old (step_text (moved given.step told)) (codes " = ") (answer_text told.answer) newline
