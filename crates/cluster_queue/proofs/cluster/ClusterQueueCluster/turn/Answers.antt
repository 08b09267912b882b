use Rattle.cluster_queue.proofs.Calls.{turning}
use Rattle.cluster_queue.proofs.Wholes.{queue_of}
use Rattle.cluster_queue.proofs.cluster.ClusterQueueCluster.turn.Goals as goal

pub turn-requires : goal.turn-requires
turn-requires c = queue_of c.self.inside c.self.invariant

pub invariant_of-self : goal.invariant_of-self
invariant_of-self c =
    (turning c.calls_keep_clusters.ensures c.args.self.now c.self.inside c.self.view_is c.self.invariant c.turn.new.self c.args.on c.args.now c.max-now.result c.max-now.ensures c.requires.moment c.turn.ensures.stays).keeps

pub returns : goal.returns
returns c = record {
  view =
      (turning c.calls_keep_clusters.ensures c.args.self.now c.self.inside c.self.view_is c.self.invariant c.turn.new.self c.args.on c.args.now c.max-now.result c.max-now.ensures c.requires.moment c.turn.ensures.stays).view;
}
