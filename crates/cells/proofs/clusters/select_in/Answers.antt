use Rattle.std.proofs.Common.{Some, refl}
use Rattle.cells.specs.Told.{Selected, after_selected}
use Rattle.cells.proofs.Placing.{told_in}
use Rattle.cells.proofs.clusters.select_in.Goals as goal

pub returns-clause-step : goal.returns-clause-step
returns-clause-step g c =
    told_in (Selected c.args.actor c.args.now c.select.result.entry c.select.result.value) (after_selected c.args.now c.select.result.entry)
    c.args.place.now (Some c.select.new.self) c.in-Some.held c.select.new.self c.in-Some.is refl
    (record { entry = c.select.ensures.entry; given = c.select.ensures.value; told = c.select.ensures.told }) c.select.ensures.held
