use Rattle.std.proofs.Common.{◌≡◌, ◌≤◌, filter, take}
use Rattle.flat_policy.specs.Policy.Precedence.{greatest_pri}
use Rattle.flat_policy.specs.Policy.Queue.{in_clutch}
use Rattle.plain_cluster.specs.Entries.{clutch, entries_of}
use Rattle.plain_cluster.proofs.scans.greatest_in_clutch.Given as goal

abbrev pub invariant-loop-row : goal.invariant-loop-row
invariant-loop-row l = record {
  greatest : l.greatest ≡ greatest_pri (filter (in_clutch (clutch l.group l.bucket)) (entries_of (take l.row-index l.rows)));
  most : l.greatest ≤ 127;
}
