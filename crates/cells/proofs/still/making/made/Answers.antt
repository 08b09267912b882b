use Rattle.std.proofs.Common.{refl}
use Rattle.cells.proofs.MostMinted.{most_new}
use Rattle.cells.proofs.still.making.made.Goals as goal

pub returns-in-Ok-clause-few : goal.returns-in-Ok-clause-few
returns-in-Ok-clause-few g c =
    most_new g.N.RunName.setup c.args.frame _ c.in-Ok.ensures.places.below
    (record { clusters = c.in-Ok.ensures.places.held; yard = c.in-Ok.ensures.yard; stock = c.in-Ok.ensures.stock; turns_are = refl })
