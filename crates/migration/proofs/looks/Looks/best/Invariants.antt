use Rattle.std.proofs.Common.{None, ◌-◌, ◌≡◌}
use Rattle.flat_policy.specs.Policy.Setup.{SetupParts, numbers_below, numbers_from}
use Rattle.edge_matrix.specs.EdgeTables.{edges_of}
use Rattle.migration.specs.Looks.{best_among, targeted}
use Rattle.migration.proofs.looks.Looks.best.Given as goal

abbrev pub invariant-loop-c : goal.invariant-loop-c
invariant-loop-c l =
    (setup : SetupParts) → l.edges ≡ edges_of setup
    → best_among setup l.self l.prefer l.most (targeted l.best) (numbers_from l.c (8 - l.c)) ≡ best_among setup l.self l.prefer l.most None (numbers_below 8)
