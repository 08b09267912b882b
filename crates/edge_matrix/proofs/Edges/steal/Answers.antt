use Rattle.std.proofs.Common.{ap, arith, ◌∙◌}
use Rattle.flat_policy.specs.Policy.Setup.{steal_mask}
use Rattle.edge_matrix.specs.EdgeTables.{EdgeTables}
use Rattle.edge_matrix.proofs.Ranges.{mask_below}
use Rattle.edge_matrix.proofs.Tables.{number_at-table}
use Rattle.edge_matrix.proofs.Edges.steal.Goals as goal

pub returns-clause-mask : goal.returns-clause-mask
returns-clause-mask c = λ setup is.
    c.get.ensures
    ∙ number_at-table c.self.inside.steals (steal_mask setup) c.args.i c.args.j
    (ap (λ (t : EdgeTables). t.steals) (c.self.view_is ∙ is)) c.requires.from c.requires.to

pub overflow_cast-result : goal.overflow_cast-result
overflow_cast-result c =
    let tables : EdgeTables = record { weights = c.self.inside.weights; migrates = c.self.inside.migrates; steals = c.self.inside.steals } in
    let below = mask_below tables c.self.invariant c.args.i c.args.j c.requires.from c.requires.to in
    omega (arith, c.get.ensures)

pub returns-clause-below : goal.returns-clause-below
returns-clause-below c =
    let tables : EdgeTables = record { weights = c.self.inside.weights; migrates = c.self.inside.migrates; steals = c.self.inside.steals } in
    let below = mask_below tables c.self.invariant c.args.i c.args.j c.requires.from c.requires.to in
    omega (arith, c.get.ensures)
