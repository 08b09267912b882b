use Rattle.std.proofs.Common.{length, ◌*◌, ◌+◌, ◌^◌, ◌≤◌}
use Rattle.trace_machine.proofs.parts.making.end_cluster.Given as goal

abbrev pub invariant-loop : goal.invariant-loop
invariant-loop g l = record {
  few : l.end ≤ 4096;
  left : length (g.K.Cluster.view l.cluster).flat.entries + l.counter ≤ l.end;
  arrival : (g.K.Cluster.view l.cluster).flat.next_arrival ≤ 2 ^ 50;
  turn : (g.K.Cluster.view l.cluster).flat.next_turn ≤ 384 * 2 ^ 50 + l.counter;
}
