use Rattle.std.proofs.Common.{take, sum_by, ◌*◌, ◌≡◌, ◌≤◌}
use Rattle.flat_policy.specs.Policy.Ranges.{nth}
use Rattle.flat_policy.proofs.setup.ranges.actors_of.Given as goal

abbrev pub invariant-loop-row : goal.invariant-loop-row
invariant-loop-row l = record {
  sum : l.actors ≡ sum_by (λ row. nth row 0) (take l.row-index l.clusters);
  bound : l.actors ≤ 16 * l.row-index;
}
