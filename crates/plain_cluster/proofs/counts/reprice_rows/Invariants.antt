use Rattle.std.proofs.Common.{◌≡◌, ◌≤◌, ◌++◌, count_by, drop, map, take}
use Rattle.plain_cluster.specs.Repricing.{is_changed, priced}
use Rattle.plain_cluster.proofs.counts.reprice_rows.Given as goal

abbrev pub invariant-loop-row : goal.invariant-loop-row
invariant-loop-row l = record {
  rows : l.rows ≡ map (priced l.counts l.now) (take l.row-index l.initial.rows) ++ drop l.row-index l.initial.rows;
  changed : l.changed ≡ count_by (is_changed l.counts l.now) (take l.row-index l.initial.rows);
  few : l.changed ≤ l.row-index;
}
