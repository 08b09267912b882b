use Rattle.std.proofs.Common.{sym, ap, ◌∙◌}
use Rattle.cells.specs.Held.{HeldParts, select_entry}
use Rattle.cells.specs.Told.{Selected}
use Rattle.cells.proofs.Placing.{found}
use Rattle.cells.proofs.cluster_locks.select_behind.Goals as goal

pub returns-clause-step : goal.returns-clause-step
returns-clause-step g c =
    found g.N.RunName.setup g.N.RunName.programs g.N.RunName.desks g.row.C (Selected c.args.actor c.args.now c.select.result.entry c.select.result.value) c.deref.result.now c.keeps.ensures
    (record {
      entry = c.select.ensures.entry ∙ ap (λ (h : HeldParts). select_entry c.args.actor h.cluster c.args.now) (c.deref_mut.ensures.value ∙ sym c.deref.ensures);
      given = c.select.ensures.value;
      told = c.select.ensures.told;
    })
