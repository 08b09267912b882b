-- What holds after every list of steps that a setup fits.
use Rattle.std.specs.Prelude.{Contains, IsTrue, List, length, ◌≤◌}
use Rattle.sched_base.specs.declared.Entry.{Entry}
use Rattle.sched_base.specs.declared.Step.{Step}
use Rattle.flat_policy.specs.Laws.Counts.{EachNameOnce}
use Rattle.flat_policy.specs.Policy.Machine.{GRun, MachineState, empty_machine, fits_step, live_count, replies, states_after}
use Rattle.flat_policy.specs.Policy.Setup.{SetupParts}

-- a setup fits each step of a list
abbrev pub FitsEach : SetupParts → List Step → Type 0
FitsEach setup steps = (s : Step) → Contains steps s → IsTrue (fits_step setup s)

-- the replies to steps that the setup fits are a history of the machine
abbrev pub RepliesAreHistories : Type 0
RepliesAreHistories =
    (setup : SetupParts) (steps : List Step) → FitsEach setup steps → GRun setup (replies setup (empty_machine setup) steps) (states_after setup (empty_machine setup) steps)

-- after them each name that was made stands in exactly one place, and no other in any
abbrev pub StepsLeaveEachNameOnce : Type 0
StepsLeaveEachNameOnce = (setup : SetupParts) (steps : List Step) → FitsEach setup steps → EachNameOnce (states_after setup (empty_machine setup) steps)

-- after every history no more threads are blocked than live
abbrev pub BlockedAreLive : Type 0
BlockedAreLive = (setup : SetupParts) (history : List Entry) (end : MachineState) → GRun setup history end → length end.yard.blocked ≤ live_count end.yard
