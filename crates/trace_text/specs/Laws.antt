-- What is written is read again, and what is read is what is written.
use Rattle.std.specs.Prelude.{All, IsTrue, List, None, Ok, Option, Some, codes, length, ℕ, ◌++◌, ◌≡◌, ◌≤◌, ◌↔◌}
use Rattle.sched_base.specs.declared.Answer.{Answer}
use Rattle.sched_base.specs.declared.Entry.{Entry}
use Rattle.sched_base.specs.declared.Step.{Step}
use Rattle.flat_policy.specs.declared.texts.Given.{Given}
use Rattle.flat_policy.specs.Laws.Counts.{StaysWithin}
use Rattle.flat_policy.specs.Laws.Sound.{Sound}
use Rattle.flat_policy.specs.Policy.BuiltSetups.{IsSetup}
use Rattle.flat_policy.specs.Policy.Machine.{MachineState, RunsFrom, fits_step, live_count, reply}
use Rattle.flat_policy.specs.Policy.Setup.{SetupParts}
use Rattle.flat_policy.specs.Texts.Answers.{answer_text}
use Rattle.flat_policy.specs.Texts.Lines.{RunSays, answered_text, newline, program_text, read_run_line, read_step_line}
use Rattle.flat_policy.specs.Texts.Steps.{step_text}
use Rattle.flat_policy.specs.Runs.Worker.{Program}
use Rattle.trace_text.specs.Runs.{ProgramFits, SaysFits, read_program_line, says_text}
use Rattle.trace_text.specs.Writing.{AnswerFits, GivenFits, StepFits}

-- the text of a step is read as that step without an answer
abbrev pub StepsReadAgain : Type 0
StepsReadAgain = (s : Step) → StepFits s → read_step_line (step_text s) ≡ Ok (record { step = s; answer = None })

-- a step with its answer, without the newline
abbrev pub answered_line : Step → Answer → List ℕ
answered_line s a = step_text s ++ codes " = " ++ answer_text a

-- the text of a step with its answer is a line, and is read as that step with that answer
abbrev pub AnswersReadAgain : Type 0
AnswersReadAgain =
    (s : Step) (a : Answer) → StepFits s → AnswerFits a → (answered_text s a ≡ answered_line s a ++ newline)
    × (read_step_line (answered_line s a) ≡ Ok (record { step = s; answer = Some a }))

-- the line of a step, alone or with its answer
abbrev pub given_line : Step → Option Answer → List ℕ
given_line s None = step_text s
given_line s (Some a) = answered_line s a

-- each value has one text: a line is read as a value exactly where that fits and the line is its text
abbrev pub LinesAreExact : Type 0
LinesAreExact =
    (line : List ℕ) (g : Given) → (read_step_line line ≡ Ok g) ↔ (GivenFits g × (line ≡ given_line g.step g.answer))

-- so with the lines of a run
abbrev pub RunLinesAreExact : Type 0
RunLinesAreExact = (line : List ℕ) (r : RunSays) → (read_run_line line ≡ Ok r) ↔ (SaysFits r × (line ≡ says_text r))

-- so with thread lines alone
abbrev pub ProgramLinesAreExact : Type 0
ProgramLinesAreExact =
    (line : List ℕ) (p : Program) → (read_program_line line ≡ Ok p) ↔ (ProgramFits p × (line ≡ program_text p))

-- a step that a built setup fits has a text, and so has each step of a history of the machine
pub record FittingStepsHaveTexts : Type 0 where
  pub step : (setup : SetupParts) (s : Step) → IsSetup setup → IsTrue (fits_step setup s) → StepFits s
  pub history : (setup : SetupParts) (g end : MachineState) (es : List Entry) → IsSetup setup → RunsFrom setup g es end → All (λ (e : Entry). StepFits e.step) es

-- the reply to a step that the setup fits, in a state of a history, has a text
abbrev pub RepliesHaveTexts : Type 0
RepliesHaveTexts =
    (setup : SetupParts) (g : MachineState) (s : Step) → IsSetup setup → Sound setup g → StaysWithin setup g → length g.yard.blocked ≤ live_count g.yard
    → IsTrue (fits_step setup s) → StepFits (reply setup g s).step × AnswerFits (reply setup g s).answer
