use Rattle.std.proofs.Common.{◌≡◌, ◌≤◌, ◌+◌}
use Rattle.flat_policy.specs.Laws.Refreshing.{with_turns_of}
use Rattle.flat_policy.specs.Policy.Queue.{Flat}
use Rattle.plain_cluster.specs.Queues.{flat_of}
use Rattle.plain_cluster.specs.Repricing.{TopsAre}
use Rattle.plain_cluster.proofs.Turns.{turns_from}
use Rattle.plain_cluster.proofs.queue.Queue.renew_turns.Given as goal

abbrev pub invariant-loop-group : goal.invariant-loop-group
invariant-loop-group l = record {
  queue : l.self ≡ record l.initial.self { units = l.self.units };
  spans : l.self.units.spans ≡ l.initial.self.units.spans;
  turn : l.self.units.next_turn ≤ l.initial.self.units.next_turn + l.group;
  turns : (s : Flat) → TopsAre s l.before → TopsAre (flat_of l.initial.self) l.after → s.spans ≡ l.initial.self.units.spans
      → turns_from s (flat_of l.self) l.bucket l.group l.initial.self.groups ≡ with_turns_of l.initial.self.groups s (flat_of l.initial.self) l.bucket;
}
