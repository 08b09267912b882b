use Rattle.std.proofs.Common.{sym, subst}
use Rattle.flat_policy.specs.Policy.Clusters.{SameRoom}
use Rattle.cluster_queue.proofs.Calls.{cluster_of, offering}
use Rattle.cluster_queue.proofs.Wholes.{queue_of}
use Rattle.cluster_queue.proofs.cluster.ClusterQueueCluster.offer.Goals as goal

pub offer-requires-clause-queue : goal.offer-requires-clause-queue
offer-requires-clause-queue c = queue_of c.self.inside c.self.invariant

pub invariant_of-self : goal.invariant_of-self
invariant_of-self c =
    (offering c.calls_keep_clusters.ensures c.args.self.now c.self.inside c.self.view_is c.self.invariant c.offer.new.self c.args.to c.args.now c.max-now.result c.args.mask c.args.rebalance
    c.max-now.ensures c.requires.edge c.requires.mask c.requires.moment c.offer.ensures.left).keeps

pub returns-clause-view : goal.returns-clause-view
returns-clause-view c =
    (offering c.calls_keep_clusters.ensures c.args.self.now c.self.inside c.self.view_is c.self.invariant c.offer.new.self c.args.to c.args.now c.max-now.result c.args.mask c.args.rebalance
    c.max-now.ensures c.requires.edge c.requires.mask c.requires.moment c.offer.ensures.left).view

pub returns-clause-room : goal.returns-clause-room
returns-clause-room c =
    let v = c.args.self.now in
    let b = offering c.calls_keep_clusters.ensures v c.self.inside c.self.view_is c.self.invariant c.offer.new.self c.args.to c.args.now c.max-now.result c.args.mask c.args.rebalance
    c.max-now.ensures c.requires.edge c.requires.mask c.requires.moment c.offer.ensures.left in
    let cluster = cluster_of c.calls_keep_clusters.ensures v c.self.inside c.self.view_is c.self.invariant in
    subst (SameRoom v) (sym b.view) ((c.calls_keep_clusters.ensures v cluster).offering_room c.args.to c.args.now)
