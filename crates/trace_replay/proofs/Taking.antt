-- A step that the machine of a replay took.
use Rattle.std.proofs.Common.{◌≡◌, ◌∙◌, ◌++◌, Bool, List, Ok, Result, arith, false, true, ap, sym, subst, ℕ}
use Rattle.std.specs.Prelude.{IsTrue}
use Rattle.sched_base.specs.declared.Entry.{Entry}
use Rattle.sched_base.specs.declared.Step.{Step}
use Rattle.flat_policy.specs.Policy.Machine.{MachineState, fits_step, reply, state_after}
use Rattle.flat_policy.specs.Policy.Setup.{SetupParts}
use Rattle.flat_policy.specs.Texts.Lines.{answered_text, entry_text, read_step_line}
use Rattle.flat_policy.specs.Texts.Pieces.{and_then}
use Rattle.flat_policy.specs.Texts.Streams.{contradicts, if_fits, step_line}
use Rattle.flat_policy.specs.declared.texts.LineFault.{LineFault}
use Rattle.flat_policy.specs.declared.texts.Given.{Given}
use Rattle.trace_machine.specs.Machines.{IsMachine, MachineView, Means, StepsTo}
use Rattle.trace_machine.specs.declared.Reply.{Reply}
use Rattle.trace_replay.specs.Traces.{Contradicts, Goes, TraceView, moved}
use Rattle.trace_text.specs.Writing.{AnswerFits, StepFits}

-- the reply of the policy is that of the machine
pub same_reply : (old mid : MachineView) (s : Step) (told : Reply) (g : MachineState) → Means old g → StepsTo old mid s told
    → reply old.parts.setup g s ≡ record { step = moved s told; answer = told.answer; thread = (reply old.parts.setup g s).thread }
same_reply old mid s told g means steps =
    sym (ap (λ (r : Reply). record { step = moved s r; answer = r.answer; thread = (reply old.parts.setup g s).thread }) (steps g means).0)

-- it has a text
pub taken_step_fits : (old mid : MachineView) (s : Step) (told : Reply) → IsMachine old → StepsTo old mid s told → IsTrue (fits_step old.parts.setup s)
    → ((g : MachineState) (t : Step) → Means old g → IsTrue (fits_step old.parts.setup t) → StepFits (reply old.parts.setup g t).step × AnswerFits (reply old.parts.setup g t).answer)
    → StepFits (moved s told) × AnswerFits told.answer
taken_step_fits old mid s told machine steps fits keeps =
    subst (λ (e : Entry). StepFits e.step × AnswerFits e.answer) (same_reply old mid s told machine.0 machine.1 steps) (keeps machine.0 s machine.1 fits)

-- the answer that is given with it is another
pub taken_contradicts : (old : TraceView) (mid : MachineView) (given : Given) (told : Reply) (found : Bool) → StepsTo old.machine mid given.step told
    → found ≡ contradicts given.answer told.answer → found ≡ true → Contradicts old given
taken_contradicts old mid given told found steps is other g means =
    ap (λ (e : Entry). contradicts given.answer e.answer) (same_reply old.machine mid given.step told g means steps) ∙ sym is ∙ other

-- it is answered
pub taken_goes : (old new : TraceView) (given : Given) (told : Reply) (found : Bool) → StepsTo old.machine new.machine given.step told
    → found ≡ contradicts given.answer told.answer → found ≡ false → new.page ≡ old.page ++ answered_text (moved given.step told) told.answer → Goes old new given
taken_goes old new given told found steps is same written g means =
    let e = same_reply old.machine new.machine given.step told g means steps in (
      ap (λ (e : Entry). contradicts given.answer e.answer) e ∙ sym is ∙ same,
      written ∙ ap (λ (e : Entry). old.page ++ entry_text e) (sym e),
      (steps g means).1,
    )

-- the machine goes on
pub machine_goes_on : (old mid : MachineView) (s : Step) (told : Reply) → IsMachine old → StepsTo old mid s told → IsMachine mid
machine_goes_on old mid s told machine steps = (state_after old.parts.setup machine.0 s, (steps machine.0 machine.1).1)

pub setup_stays : (old mid : MachineView) (s : Step) (told : Reply) → IsMachine old → StepsTo old mid s told → mid.parts.setup ≡ old.parts.setup
setup_stays old mid s told machine steps = (steps machine.0 machine.1).2

fits_of : (setup : SetupParts) (r : Result Given LineFault) (given : Given) → and_then r (if_fits setup) ≡ Ok given → IsTrue (fits_step setup given.step)
fits_of setup r given is = grind arith

-- a line that says a step, says one that the setup fits
pub fitting_line : (setup : SetupParts) (line : List ℕ) (given : Given) → step_line setup line ≡ Ok given → IsTrue (fits_step setup given.step)
fitting_line setup line given is = fits_of setup (read_step_line line) given is

said_of : (setup : SetupParts) (r : Result Given LineFault) (given : Given) → and_then r (if_fits setup) ≡ Ok given → r ≡ Ok given
said_of setup r given is = grind arith

-- and reads as that
pub said_line : (setup : SetupParts) (line : List ℕ) (given : Given) → step_line setup line ≡ Ok given → read_step_line line ≡ Ok given
said_line setup line given is = said_of setup (read_step_line line) given is
