use Rattle.std.proofs.Common.{ap, cond, nat_eq, ℕ, ◌∙◌}
use Rattle.flat_policy.specs.Policy.Setup.{migrates}
use Rattle.edge_matrix.specs.EdgeTables.{EdgeTables}
use Rattle.edge_matrix.proofs.Tables.{nat_eq-bit, number_at-table}
use Rattle.edge_matrix.proofs.Edges.migrate.Goals as goal

pub returns : goal.returns
returns c = λ setup is.
    ap (λ (n : ℕ). nat_eq n 1)
    (c.get.ensures
    ∙ number_at-table c.self.inside.migrates (λ i j. cond (migrates setup i j) 1 0) c.args.i c.args.j
    (ap (λ (t : EdgeTables). t.migrates) (c.self.view_is ∙ is)) c.requires.from c.requires.to)
    ∙ nat_eq-bit (migrates setup c.args.i c.args.j)
