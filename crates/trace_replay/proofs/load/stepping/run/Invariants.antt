use Rattle.trace_replay.specs.LoadsSoFar.{HasRun}
use Rattle.trace_replay.proofs.load.stepping.run.Given as goal

abbrev pub invariant-loop-i : goal.invariant-loop-i
invariant-loop-i g l = HasRun l.seed l.i l.machine l.so_far
