use Rattle.std.proofs.Common.{arith, sym, ◌∙◌}
use Rattle.flat_policy.specs.Policy.Setup.{migrates}
use Rattle.migration.proofs.Scans.{any_end, any_here, any_later}
use Rattle.migration.proofs.looks.moves.Goals as goal

pub returns-then-migrate : goal.returns-then-migrate
returns-then-migrate c = λ setup is.
    sym (any_here (migrates setup c.args.prefer) c.loop-c.c 8 (omega arith) (sym (c.migrate.ensures setup is) ∙ c.if-migrate.true))
    ∙ c.loop-c.invariant setup is

pub loop-c-preserved : goal.loop-c-preserved
loop-c-preserved c = λ setup is.
    any_later (migrates setup c.args.prefer) c.loop-c.c 8 (omega arith) (sym (c.migrate.ensures setup is) ∙ c.if-migrate.false)
    ∙ c.loop-c.invariant setup is

pub returns : goal.returns
returns c = λ setup is. sym (any_end (migrates setup c.args.prefer) c.loop-c.c 8 (omega arith)) ∙ c.loop-c.invariant setup is
