use Rattle.std.proofs.Common.{arith}
use Rattle.flat_policy.proofs.SetupTimes.{times_read, times_small}
use Rattle.flat_policy.proofs.setup.Setup.times.Goals as goal

pub returns-clause-times : goal.returns-clause-times
returns-clause-times c =
    rw (c.get.ensures, c.get-2.ensures, c.get-3.ensures)
    (times_read c.self.inside c.args.self.now c.args.c c.index-column.result c.args.b c.self.invariant c.self.view_is c.requires c.index-column.ensures.index)

pub overflow_cast-result : goal.overflow_cast-result
overflow_cast-result c =
    omega (arith, c.get.ensures, (times_small c.self.inside c.args.self.now c.args.c c.index-column.result c.args.b c.self.invariant c.self.view_is c.requires c.index-column.ensures.index).wcel_most)

pub overflow_cast-result-2 : goal.overflow_cast-result-2
overflow_cast-result-2 c =
    omega (arith, c.get-2.ensures, (times_small c.self.inside c.args.self.now c.args.c c.index-column.result c.args.b c.self.invariant c.self.view_is c.requires c.index-column.ensures.index).warp_most)

pub overflow_cast-result-3 : goal.overflow_cast-result-3
overflow_cast-result-3 c =
    omega (arith, c.get-3.ensures, (times_small c.self.inside c.args.self.now c.args.c c.index-column.result c.args.b c.self.invariant c.self.view_is c.requires c.index-column.ensures.index).quantum_most)

pub returns-clause-ranges : goal.returns-clause-ranges
returns-clause-ranges c =
    rw (c.get.ensures, c.get-2.ensures, c.get-3.ensures)
    (times_small c.self.inside c.args.self.now c.args.c c.index-column.result c.args.b c.self.invariant c.self.view_is c.requires c.index-column.ensures.index)
