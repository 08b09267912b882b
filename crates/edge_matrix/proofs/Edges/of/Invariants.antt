use Rattle.std.proofs.Common.{◌≡◌, drop}
use Rattle.edge_matrix.specs.EdgeTables.{EdgeTables, edges_of}
use Rattle.edge_matrix.proofs.Edges.of.Given as goal

abbrev pub invariant-loop-k : goal.invariant-loop-k
invariant-loop-k l =
    ◌≡◌ {A = EdgeTables} (record { weights = l.weights; migrates = l.migrates; steals = l.steals }) (edges_of (record l.setup { edges = drop l.k l.setup.edges }))
