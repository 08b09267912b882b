use Rattle.std.proofs.Common.{◌-◌, ◌≡◌}
use Rattle.std.specs.List.{list_any}
use Rattle.flat_policy.specs.Policy.Setup.{SetupParts, migrates, numbers_below, numbers_from}
use Rattle.edge_matrix.specs.EdgeTables.{edges_of}
use Rattle.migration.proofs.looks.moves.Given as goal

abbrev pub invariant-loop-c : goal.invariant-loop-c
invariant-loop-c l =
    (setup : SetupParts) → l.edges ≡ edges_of setup
    → list_any (migrates setup l.prefer) (numbers_from l.c (8 - l.c)) ≡ list_any (migrates setup l.prefer) (numbers_below 8)
