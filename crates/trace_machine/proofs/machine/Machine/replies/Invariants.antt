use Rattle.std.specs.Prelude.{drop}
use Rattle.trace_machine.proofs.Running.{RunsSoFar}
use Rattle.trace_machine.proofs.machine.Machine.replies.Given as goal

abbrev pub invariant-loop-step : goal.invariant-loop-step
invariant-loop-step g l = RunsSoFar l.fn.self l.self l.told.items l.steps (drop l.step-index l.steps)
