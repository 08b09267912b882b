use Rattle.cluster_queue.proofs.Calls.{touching}
use Rattle.cluster_queue.proofs.Wholes.{queue_of}
use Rattle.cluster_queue.proofs.cluster.ClusterQueueCluster.touch.Goals as goal

pub touch-requires : goal.touch-requires
touch-requires c = queue_of c.self.inside c.self.invariant

pub invariant_of-self : goal.invariant_of-self
invariant_of-self c =
    (touching c.calls_keep_clusters.ensures c.args.self.now c.self.inside c.self.view_is c.self.invariant c.touch.new.self c.args.now c.max-now.result c.max-now.ensures c.requires.moment c.touch.ensures.stays).keeps

pub returns : goal.returns
returns c = record {
  view =
      (touching c.calls_keep_clusters.ensures c.args.self.now c.self.inside c.self.view_is c.self.invariant c.touch.new.self c.args.now c.max-now.result c.max-now.ensures c.requires.moment c.touch.ensures.stays).view;
}
