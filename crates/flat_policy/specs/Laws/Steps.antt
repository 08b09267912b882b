-- Laws of single steps: windows that expire twice, and refusals.
use Rattle.std.specs.Prelude.{List, None, Some, ℕ, ◌≡◌}
use Rattle.sched_base.specs.declared.Answer.{Answer}
use Rattle.sched_base.specs.declared.Step.{Step}
use Rattle.flat_policy.specs.declared.setup.Times.{Times}
use Rattle.flat_policy.specs.Policy.Machine.{MachineState, refusal, reply, state_after}
use Rattle.flat_policy.specs.Policy.Queue.{Flat}
use Rattle.flat_policy.specs.Policy.Setup.{SetupParts}
use Rattle.flat_policy.specs.Policy.Windows.{expired}

-- windows that expire twice at one moment are as after once
abbrev pub ExpiresOnce : Type 0
ExpiresOnce = (ts : List Times) (s : Flat) (now : ℕ) → expired ts (expired ts s now) now ≡ expired ts s now

-- a refused step is answered its refusal, moves no thread, and leaves all as it was
pub record IsRefused (setup : SetupParts) (g : MachineState) (step : Step) (a : Answer) : Type 0 where
  pub answer : (reply setup g step).answer ≡ a
  pub thread : (reply setup g step).thread ≡ None
  pub state : state_after setup g step ≡ g

-- each refusal is so
abbrev pub RefusalsChangeNothing : Type 0
RefusalsChangeNothing = (setup : SetupParts) (g : MachineState) (step : Step) (a : Answer) → refusal setup g step ≡ Some a → IsRefused setup g step a
