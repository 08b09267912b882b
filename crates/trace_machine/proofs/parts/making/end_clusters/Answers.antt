use Rattle.std.proofs.Common.{◌-◌, vec_len}
use Rattle.trace_machine.proofs.Making.{fewer_end}
use Rattle.trace_machine.proofs.parts.making.end_clusters.Goals as goal

pub loop-cluster-preserved : goal.loop-cluster-preserved
loop-cluster-preserved g c =
    fewer_end g.K.Cluster.view c.loop-cluster.clusters.items c.pop.new.self.items (vec_len c.loop-cluster.clusters - 1) c.pop.ensures.rest c.loop-cluster.invariant
