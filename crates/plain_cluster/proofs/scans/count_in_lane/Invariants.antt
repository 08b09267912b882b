use Rattle.std.proofs.Common.{◌≡◌, ◌≤◌, filter, length, take}
use Rattle.flat_policy.specs.Policy.Queue.{in_lane}
use Rattle.plain_cluster.specs.Entries.{entries_of}
use Rattle.plain_cluster.proofs.scans.count_in_lane.Given as goal

abbrev pub invariant-loop-row : goal.invariant-loop-row
invariant-loop-row l = record {
  count : l.count ≡ length (filter (in_lane l.lane) (entries_of (take l.row-index l.rows)));
  most : l.count ≤ l.row-index;
}
