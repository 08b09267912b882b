-- Where the texts of lines stand among the lines of an input.
use Rattle.std.specs.Prelude.{List, ℕ, ◌++◌, ◌∷◌, ◌≡◌}
use Rattle.sched_base.specs.declared.Answer.{Answer}
use Rattle.sched_base.specs.declared.Step.{Step}
use Rattle.flat_policy.specs.Texts.Lines.{answered_text}
use Rattle.flat_policy.specs.Texts.Streams.{TextLines, text_lines}
use Rattle.trace_text.specs.Laws.{answered_line}
use Rattle.trace_text.specs.Writing.{AnswerFits, StepFits}

-- a line before some lines
abbrev pub line_before : List ℕ → TextLines → TextLines
line_before line t = record t { whole = line ∷ t.whole }

-- the text of a step with its answer is the first line of whatever goes on with it
abbrev pub AnswersStandInLines : Type 0
AnswersStandInLines =
    (s : Step) (a : Answer) (more : List ℕ) → StepFits s → AnswerFits a → text_lines (answered_text s a ++ more) ≡ line_before (answered_line s a) (text_lines more)
