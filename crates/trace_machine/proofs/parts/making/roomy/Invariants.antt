use Rattle.std.proofs.Common.{◌≡◌, ◌≤◌}
use Rattle.flat_policy.specs.Policy.Clusters.{new_cluster}
use Rattle.trace_machine.proofs.parts.making.roomy.Given as goal

abbrev pub invariant-loop : goal.invariant-loop
invariant-loop g l = record {
  bound : l.end ≡ l.setup.threads;
  same : g.K.Cluster.view l.cluster ≡ record (new_cluster l.setup l.c) { spare = (g.K.Cluster.view l.cluster).spare };
  room : l.counter ≤ (g.K.Cluster.view l.cluster).spare;
}
