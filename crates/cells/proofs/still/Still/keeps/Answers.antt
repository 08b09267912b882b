use Rattle.std.proofs.Common.{subst}
use Rattle.cells.specs.Stills.{KeepAll}
use Rattle.cells.proofs.still.Still.keeps.Goals as goal

pub returns : goal.returns
returns g c =
    subst (KeepAll g.N.RunName.setup g.N.RunName.programs g.N.RunName.desks) c.self.view_is
    (record { filled = c.self.invariant.1; each = c.keeps.ensures; yard = c.keeps-2.ensures })
