use Rattle.std.proofs.Common.{length, ◌+◌, ◌^◌, ◌≤◌}
use Rattle.cells.proofs.held_cluster.end_queue.Given as goal

abbrev pub invariant-loop : goal.invariant-loop
invariant-loop g l =
    (l.end ≤ 4096)
    × (length (g.K.Cluster.view l.queue).flat.entries + l.counter ≤ l.end)
    × ((g.K.Cluster.view l.queue).flat.next_arrival ≤ 2 ^ 50)
    × ((g.K.Cluster.view l.queue).flat.next_turn ≤ 2 ^ 50 + l.counter)
