-- The slots so far are added, and nothing changes but the heaps of foreign threads.
use Rattle.std.proofs.Common.{◌≡◌, ◌≤◌, ◌-◌}
use Rattle.cluster_queue.specs.Filling.{FilledBelow, OnlyForeignChange, end_of}
use Rattle.cluster_queue.proofs.heaps.Heaps.fill_foreign.Given as goal

abbrev pub invariant-loop-next : goal.invariant-loop-next
invariant-loop-next g l = record {
  filled : FilledBelow l.arena l.self (end_of l.next);
  same : l.self ≡ record l.fn.self { foreign = l.self.foreign };
  kept : OnlyForeignChange l.fn.arena l.arena;
  ticks : l.fn.steps ≤ l.steps;
}

abbrev pub decreases-loop-next : goal.decreases-loop-next
decreases-loop-next g l = 4294967296 - end_of l.next
