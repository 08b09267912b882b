-- A line whose moment and actor are read goes on with its act.
use Rattle.std.proofs.Common.{List, OnOk, refl, ℕ, ◌≡◌, Err, Ok, Result}
use Rattle.flat_policy.specs.declared.texts.LineFault.{LineFault}
use Rattle.flat_policy.specs.Texts.Lines.{given_at, read_given}
use Rattle.flat_policy.specs.Texts.Pieces.{Reading, actor_at, and_then, made_of, moment_at, pieces}
use Rattle.flat_policy.specs.Texts.Steps.{act_at}
use Rattle.flat_policy.specs.declared.texts.Given.{Given}
use Rattle.trace_text.proofs.LinesBack.{given_fits}
use Rattle.trace_text.specs.Acting.{given_behind, unless_fault}
use Rattle.trace_text.specs.Writing.{GivenFits}
use Rattle.sched_base.specs.declared.Act.{Act}
use Rattle.sched_base.specs.declared.Step.{Step}

made_then : {A B C : Type 0} (f : A → B) (g : B → List (List ℕ) → Result C LineFault) (r : Reading A) → and_then (made_of f r) (λ s. g s.0 s.1) ≡ and_then r (λ a. g (f a.0) a.1)
made_then f g (Ok x) = refl
made_then f g (Err e) = refl

pub begun : (ps ps1 ps2 : List (List ℕ)) (moment actor : ℕ) → moment_at ps ≡ Ok (moment, ps1) → actor_at ps1 ≡ Ok (actor, ps2) → read_given ps ≡ given_behind moment actor ps2
begun ps ps1 ps2 moment actor m a =
    let step : Act → Step = λ act. record { moment = moment; actor = actor; act = act } in
    rw (m, a) (made_then step given_at (act_at ps2))

-- so what stands in a place after a reading without a fault may be written
pub fits_unless_fault : (line : List ℕ) (given : Given) (r : Result Unit LineFault) → unless_fault r given ≡ read_given (pieces line) → OnOk r (GivenFits given)
fits_unless_fault line given (Ok x) e = given_fits line (Ok given) e
fits_unless_fault line given (Err d) e = tt
