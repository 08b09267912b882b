use Rattle.std.proofs.Common.{◌≡◌, filter, length, take}
use Rattle.sched_base.specs.declared.Facts.{Facts}
use Rattle.plain_cluster.specs.Entries.{entries_of}
use Rattle.plain_cluster.specs.Repricing.{count_of, in_unit}
use Rattle.plain_cluster.proofs.counts.Counts.of_rows.Given as goal

abbrev pub invariant-loop-row : goal.invariant-loop-row
invariant-loop-row l = (t : Facts) → count_of l.counts t ≡ length (filter (in_unit t) (entries_of (take l.row-index l.rows)))
