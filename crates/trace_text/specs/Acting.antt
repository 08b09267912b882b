-- What a line gives once its moment and its actor are read, and what was read into a place.
use Rattle.std.specs.Prelude.{Err, List, Ok, Result, ℕ, ◌≡◌}
use Rattle.flat_policy.specs.declared.texts.Given.{Given}
use Rattle.flat_policy.specs.declared.texts.LineFault.{LineFault}
use Rattle.flat_policy.specs.Texts.Lines.{given_at}
use Rattle.flat_policy.specs.Texts.Pieces.{and_then}
use Rattle.flat_policy.specs.Texts.Steps.{act_at}

-- by the pieces behind them: an act, and an answer or nothing
abbrev pub given_behind : ℕ → ℕ → List (List ℕ) → Result Given LineFault
given_behind moment actor ps =
    and_then (act_at ps) (λ a. given_at (record { moment = moment; actor = actor; act = a.0 }) a.1)

-- what stands in a place where no fault was met
abbrev pub unless_fault : Result Unit LineFault → Given → Result Given LineFault
unless_fault (Ok x) given = Ok given
unless_fault (Err e) given = Err e

-- the reading of a line went on behind the moment and the actor that stood in a place, over these pieces
abbrev pub ReadsAct : Given → Given → Result Unit LineFault → List (List ℕ) → Type 0
ReadsAct old new result ps = unless_fault result new ≡ given_behind old.step.moment old.step.actor ps

-- the reading of a line went on behind the step that stood in a place, over these pieces
abbrev pub ReadsRest : Given → Given → Result Unit LineFault → List (List ℕ) → Type 0
ReadsRest old new result ps = unless_fault result new ≡ given_at old.step ps
