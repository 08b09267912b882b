use Rattle.std.proofs.Common.{◌≡◌, ◌≤◌, filter, length, take}
use Rattle.plain_cluster.specs.Entries.{entries_of, is_unbound_to}
use Rattle.plain_cluster.proofs.scans.count_unbound.Given as goal

abbrev pub invariant-loop-row : goal.invariant-loop-row
invariant-loop-row l = record {
  count : l.count ≡ length (filter (is_unbound_to l.bucket) (entries_of (take l.row-index l.rows)));
  most : l.count ≤ l.row-index;
}
