use Rattle.std.proofs.Common.{◌≡◌, ◌<◌, None, filter, fold, length, take}
use Rattle.std.specs.Option.{ForSome}
use Rattle.flat_policy.specs.Laws.Choice.{better}
use Rattle.flat_policy.specs.Laws.Units.{goes_by_keys}
use Rattle.flat_policy.specs.Policy.Queue.{in_lane}
use Rattle.plain_cluster.specs.Entries.{entries_of, entry_at}
use Rattle.plain_cluster.specs.Queues.{flat_of}
use Rattle.plain_cluster.proofs.queue.Queue.first_of.Given as goal

abbrev pub invariant-loop-place : goal.invariant-loop-place
invariant-loop-place l = record {
  items : l.row-items ≡ l.self.rows.rows;
  first : entry_at l.self.rows.rows l.first ≡ fold (better (goes_by_keys (flat_of l.self))) None (filter (in_lane l.lane) (entries_of (take l.place l.row-items)));
  there : ForSome l.first (λ best. best < length l.self.rows.rows);
}
