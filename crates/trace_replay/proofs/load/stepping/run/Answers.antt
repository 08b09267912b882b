use Rattle.std.proofs.Common.{arith, subst, sym}
use Rattle.trace_machine.specs.Machines.{IsMachine}
use Rattle.trace_replay.proofs.LoadSteps.{counts_fit, run_goes_on, run_machine}
use Rattle.trace_replay.proofs.load.stepping.run.Goals as goal

pub next-requires-clause-counts : goal.next-requires-clause-counts
next-requires-clause-counts g c =
    counts_fit c.args.seed c.loop-i.i c.loop-i.machine c.loop-i.so_far c.loop-i.invariant (omega (arith, c.loop-i-test.true, c.requires.few))

pub returns-in_err-so_far-clause-machine : goal.returns-in_err-so_far-clause-machine
returns-in_err-so_far-clause-machine g c =
    subst IsMachine (sym c.in_err-so_far.ensures.err) (run_machine c.args.seed c.loop-i.i c.loop-i.machine c.loop-i.so_far c.loop-i.invariant)

pub loop-i-preserved : goal.loop-i-preserved
loop-i-preserved g c =
    run_goes_on c.args.seed c.loop-i.i c.loop-i.machine c.next.new.machine c.loop-i.so_far c.in_ok-so_far.so_far c.loop-i.invariant c.in_ok-so_far.ensures.takes
