use Rattle.std.proofs.Common.{All, map}
use Rattle.trace_machine.specs.Making.{CanEnd}
use Rattle.trace_machine.proofs.parts.making.end_clusters.Given as goal

abbrev pub invariant-loop-cluster : goal.invariant-loop-cluster
invariant-loop-cluster g l = All CanEnd (map g.K.Cluster.view l.clusters.items)

abbrev pub decreases-loop-cluster : goal.decreases-loop-cluster
decreases-loop-cluster g l = goal.left-loop-cluster g l
