use Rattle.std.proofs.Common.{◌≡◌, None, filter, fold, take}
use Rattle.flat_policy.specs.Laws.Units.{scored}
use Rattle.flat_policy.specs.Policy.Queue.{in_lane}
use Rattle.plain_cluster.specs.Entries.{entries_of}
use Rattle.plain_cluster.specs.Queues.{flat_of}
use Rattle.plain_cluster.proofs.Tops.{higher_with}
use Rattle.plain_cluster.proofs.queue.Queue.top.Given as goal

abbrev pub invariant-loop-row : goal.invariant-loop-row
invariant-loop-row l = record {
  items : l.row-items ≡ l.self.rows.rows;
  top : l.top ≡ fold (higher_with (scored (flat_of l.self))) None (filter (in_lane l.lane) (entries_of (take l.row-index l.row-items)));
}
