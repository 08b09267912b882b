use Rattle.std.proofs.Common.{sym, subst}
use Rattle.flat_policy.specs.Policy.BuiltSetups.{IsSetup}
use Rattle.flat_policy.specs.Runs.Worker.{Program}
use Rattle.std.proofs.Common.{List}
use Rattle.cells.specs.Frames.{AreRunnable}
use Rattle.held_rows.proofs.Tried.{rows_runnable}
use Rattle.held_rows.proofs.tests.held.Goals as goal

pub new-requires-clause-runnable : goal.new-requires-clause-runnable
new-requires-clause-runnable g c =
    subst (λ (ps : List Program). AreRunnable g.N.RunName.setup ps) (sym c.requires.programs)
    (rows_runnable g.N.RunName.setup (subst IsSetup c.requires.setup c.keeps_ranges.ensures) c.requires.pair)
