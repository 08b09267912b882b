use Rattle.std.proofs.Common.{◌≡◌, ◌≤◌, filter, length, take}
use Rattle.flat_policy.specs.Policy.Queue.{in_clutch}
use Rattle.plain_cluster.specs.Entries.{clutch, entries_of}
use Rattle.plain_cluster.proofs.scans.count_in_clutch.Given as goal

abbrev pub invariant-loop-row : goal.invariant-loop-row
invariant-loop-row l = record {
  count : l.count ≡ length (filter (in_clutch (clutch l.group l.bucket)) (entries_of (take l.row-index l.rows)));
  most : l.count ≤ l.row-index;
}
