use Rattle.std.proofs.Common.{◌≡◌, filter, take}
use Rattle.flat_policy.specs.Policy.Precedence.{greatest_pri}
use Rattle.flat_policy.specs.Policy.Queue.{Clutch, in_clutch}
use Rattle.plain_cluster.specs.Entries.{entries_of}
use Rattle.plain_cluster.specs.Repricing.{cell}
use Rattle.plain_cluster.proofs.scans.clutch_tops.Given as goal

abbrev pub invariant-loop-row : goal.invariant-loop-row
invariant-loop-row l = (k : Clutch) → cell l.tops k ≡ greatest_pri (filter (in_clutch k) (entries_of (take l.row-index l.rows)))
