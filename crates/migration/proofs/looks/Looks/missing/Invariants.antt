use Rattle.std.proofs.Common.{find, ◌-◌, ◌≡◌}
use Rattle.flat_policy.specs.Policy.Setup.{SetupParts, numbers_below, numbers_from}
use Rattle.edge_matrix.specs.EdgeTables.{edges_of}
use Rattle.migration.specs.Looks.{lacks_look}
use Rattle.migration.proofs.looks.Looks.missing.Given as goal

abbrev pub invariant-loop-c : goal.invariant-loop-c
invariant-loop-c l =
    (setup : SetupParts) → l.edges ≡ edges_of setup
    → find (lacks_look setup l.self l.prefer) (numbers_from l.c (8 - l.c)) ≡ find (lacks_look setup l.self l.prefer) (numbers_below 8)
