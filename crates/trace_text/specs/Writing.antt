-- Steps and answers whose numbers are in the ranges of lines, and how their texts stand.
use Rattle.std.specs.Prelude.{IfSome, List, codes, ℕ, ⊤, ◌++◌, ◌<◌, ◌^◌, ◌≡◌, ◌≤◌}
use Rattle.sched_base.specs.Limits.{moment_limit, most_base}
use Rattle.sched_base.specs.declared.Act.{Act}
use Rattle.sched_base.specs.declared.Answer.{Answer}
use Rattle.sched_base.specs.declared.Place.{Place}
use Rattle.sched_base.specs.declared.Step.{Step}
use Rattle.flat_policy.specs.declared.texts.Given.{Given}
use Rattle.flat_policy.specs.Texts.Answers.{answer_text}
use Rattle.flat_policy.specs.Texts.Lines.{newline}
use Rattle.flat_policy.specs.Texts.Steps.{step_text}
use Rattle.sched_base.specs.declared.Act.TheVariants as acts
use Rattle.sched_base.specs.declared.Answer.TheVariants as answers
use Rattle.sched_base.specs.declared.Place.TheVariants as places

-- the numbers of an act are in the ranges of lines
abbrev pub ActFits : Act → Type 0
ActFits (acts.Make name group bucket base bound) =
    (name < 2 ^ 32) × (group ≤ 63) × (base ≤ most_base) × IfSome bound (λ c. c ≤ 15)
ActFits (acts.Enter c head) = c ≤ 15
ActFits (acts.Offer c) = c ≤ 15
ActFits (acts.Pull name) = name < 2 ^ 32
ActFits (acts.Look c) = c ≤ 15
ActFits (acts.Ran us) = us < 2 ^ 32
ActFits (acts.Wake name) = name < 2 ^ 32
ActFits (acts.Off c) = c ≤ 15
ActFits (acts.On c) = c ≤ 15
ActFits _ = ⊤

-- the numbers of a step
pub record StepFits (s : Step) : Type 0 where
  pub moment : s.moment < moment_limit
  pub actor : s.actor ≤ 15
  pub act : ActFits s.act

-- the numbers of a place
abbrev pub PlaceFits : Place → Type 0
PlaceFits (places.Queue c) = c ≤ 15
PlaceFits (places.Hand a) = a ≤ 15
PlaceFits _ = ⊤

-- the numbers of an answer
abbrev pub AnswerFits : Answer → Type 0
AnswerFits (answers.Pri p) = p ≤ most_base
AnswerFits (answers.Got name) = name < 2 ^ 32
AnswerFits (answers.Load l) = l < 2 ^ 32
AnswerFits (answers.To c) = c ≤ 15
AnswerFits (answers.New n) = n < 2 ^ 32
AnswerFits (answers.Left n) = n < 2 ^ 32
AnswerFits (answers.Work w) = w < 2 ^ 64
AnswerFits (answers.NotBlocked place) = PlaceFits place
AnswerFits (answers.NotQueued place) = PlaceFits place
AnswerFits (answers.LookFirst c) = c ≤ 15
AnswerFits _ = ⊤

-- the numbers of a step and of the answer that is given to it, if one
pub record GivenFits (g : Given) : Type 0 where
  pub step : StepFits g.step
  pub answer : IfSome g.answer AnswerFits

-- the text of one step
pub record IsStepText (text : List ℕ) : Type 0 where
  pub step : Step
  pub fits : StepFits step
  pub same : text ≡ step_text step

-- what stands behind the step of a line that gives an answer
abbrev pub answer_part : Answer → List ℕ
answer_part a = codes " = " ++ answer_text a ++ newline
