use Rattle.std.specs.Prelude.{◌*◌, ◌≡◌, ◌≤◌}
use Rattle.cluster_queue.proofs.Counted.{lens_below}
use Rattle.cluster_queue.proofs.heaps.Heaps.count_unbound.Given as goal

abbrev pub invariant-loop-at : goal.invariant-loop-at
invariant-loop-at l = record {
  count : l.count ≡ lens_below l.self.lanes l.at;
  most : l.count ≤ l.at * 4096;
}
