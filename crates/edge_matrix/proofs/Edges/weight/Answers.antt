use Rattle.std.proofs.Common.{ap, arith, ◌∙◌}
use Rattle.flat_policy.specs.Policy.Setup.{edge_weight}
use Rattle.edge_matrix.specs.EdgeTables.{EdgeTables}
use Rattle.edge_matrix.proofs.Ranges.{weight_below}
use Rattle.edge_matrix.proofs.Tables.{number_at-table}
use Rattle.edge_matrix.proofs.Edges.weight.Goals as goal

pub returns : goal.returns
returns c = λ setup is.
    c.get.ensures
    ∙ number_at-table c.self.inside.weights (edge_weight setup) c.args.i c.args.j
    (ap (λ (t : EdgeTables). t.weights) (c.self.view_is ∙ is)) c.requires.from c.requires.to

pub overflow_cast-result : goal.overflow_cast-result
overflow_cast-result c =
    let tables : EdgeTables = record { weights = c.self.inside.weights; migrates = c.self.inside.migrates; steals = c.self.inside.steals } in
    let below = weight_below tables c.self.invariant c.args.i c.args.j c.requires.from c.requires.to in
    omega (arith, c.get.ensures)
