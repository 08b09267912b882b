use Rattle.std.proofs.Common.{map, vec_capacity, vec_len, ◌≡◌, ◌≤◌}
use Rattle.flat_policy.specs.Policy.Setup.{cluster_count}
use Rattle.trace_machine.specs.Making.{AreNew}
use Rattle.trace_machine.proofs.parts.making.made_clusters.Given as goal

abbrev pub invariant-loop-c : goal.invariant-loop-c
invariant-loop-c g l = record {
  bound : l.c-end ≡ cluster_count l.setup;
  room : l.c-end ≤ vec_capacity l.clusters;
  count : vec_len l.clusters ≡ l.c;
  new : AreNew l.setup l.c (map g.K.Cluster.view l.clusters.items);
}
