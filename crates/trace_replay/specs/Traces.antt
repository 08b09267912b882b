-- A replay in code: its machine, the output that is not put yet, and the number of the line that comes next.
use Rattle.std.specs.Prelude.{List, Ok, Err, [], false, true, ℕ, ⊤, ◌++◌, ◌+◌, ◌<◌, ◌^◌, ◌≡◌, ◌≤◌}
use Rattle.flat_policy.specs.Policy.Machine.{MachineState, empty_machine, reply, state_after}
use Rattle.flat_policy.specs.Policy.Setup.{SetupParts}
use Rattle.flat_policy.specs.Texts.Lines.{entry_text}
use Rattle.flat_policy.specs.Texts.Streams.{contradicts, step_line}
use Rattle.flat_policy.specs.declared.texts.Given.{Given}
use Rattle.sched_base.specs.declared.Step.{Step}
use Rattle.trace_machine.specs.Machines.{IsMachine, MachineView, Means}
use Rattle.trace_machine.specs.declared.Reply.{Reply}
use Rattle.trace_replay.specs.declared.status.ReplayStatus.{ReplayStatus}
use Rattle.trace_replay.specs.declared.status.ReplayStatus.TheVariants.{BadLine, Differs, OutOfMemory}

pub record TraceView : Type 0 where
  pub machine : MachineView
  pub page : List ℕ
  pub line : ℕ

-- the setup of its machine
abbrev pub setup_of : TraceView → SetupParts
setup_of t = t.machine.parts.setup

-- it may take a step more
pub record CanAnswer (t : TraceView) : Type 0 where
  pub machine : IsMachine t.machine
  pub steps : t.machine.steps < 2 ^ 50
  pub line : t.line < 2 ^ 50

-- it may end
pub record CanEnd (t : TraceView) : Type 0 where
  pub machine : IsMachine t.machine
  pub steps : t.machine.steps ≤ 2 ^ 50

-- it is as after the setup line
pub record IsBegun (stated : SetupParts) (t : TraceView) : Type 0 where
  pub means : Means t.machine (empty_machine stated)
  pub setup : setup_of t ≡ stated
  pub steps : t.machine.steps ≡ 0
  pub page : t.page ≡ []
  pub line : t.line ≡ 2

-- a step at the moment of a reply
abbrev pub moved : Step → Reply → Step
moved s told = record { moment = told.moment; actor = s.actor; act = s.act }

-- a given answer does not contradict the reply to a step, in every state that the machine meant, and the reply is written
abbrev pub Goes : TraceView → TraceView → Given → Type 0
Goes old new given =
    (g : MachineState) → Means old.machine g
    → (contradicts given.answer (reply (setup_of old) g given.step).answer ≡ false)
    × (new.page ≡ old.page ++ entry_text (reply (setup_of old) g given.step))
    × Means new.machine (state_after (setup_of old) g given.step)

-- a step with its given answer, if it has one, is answered
pub record Takes (old new : TraceView) (given : Given) : Type 0 where
  pub goes : Goes old new given
  pub setup : setup_of new ≡ setup_of old
  pub steps : new.machine.steps ≡ old.machine.steps + 1
  pub next : new.line ≡ old.line + 1

-- a line is answered
abbrev pub Answers : TraceView → TraceView → List ℕ → Type 0
Answers old new line = (given : Given) × (step_line (setup_of old) line ≡ Ok given) × Takes old new given

-- a given answer contradicts the reply to a step, in every state that the machine meant
abbrev pub Contradicts : TraceView → Given → Type 0
Contradicts old given = (g : MachineState) → Means old.machine g → contradicts given.answer (reply (setup_of old) g given.step).answer ≡ true

-- why a step with its given answer is not answered
abbrev pub StopsTake : TraceView → Given → ReplayStatus → Type 0
StopsTake old given (Differs line) = (line ≡ old.line) × Contradicts old given
StopsTake old given OutOfMemory = ⊤
StopsTake old given _ = ⊥

-- why a line is not answered
abbrev pub StopsLine : TraceView → List ℕ → ReplayStatus → Type 0
StopsLine old line (BadLine number what) = (number ≡ old.line) × (step_line (setup_of old) line ≡ Err what)
StopsLine old line (Differs number) = (number ≡ old.line) × ((given : Given) × (step_line (setup_of old) line ≡ Ok given) × Contradicts old given)
StopsLine old line OutOfMemory = ⊤
StopsLine old line _ = ⊥

-- nothing is written, and it may end
pub record Stays (old new : TraceView) : Type 0 where
  pub page : new.page ≡ old.page
  pub ends : CanEnd new
