-- What the call says of the element, of the cluster by its number.
use Rattle.std.proofs.Common.{◌≡◌, sym, subst}
use Rattle.flat_policy.specs.Policy.Clusters.{ClusterView, after_offer, offer_of}
use Rattle.flat_policy.specs.Policy.ClusterSteps.{facts_of}
use Rattle.trace_machine.proofs.Changes.{cluster_written}
use Rattle.trace_machine.proofs.Readings.{cluster_read}
use Rattle.trace_machine.proofs.parts.Parts.offer_at.Goals as goal

pub returns-clause-offered : goal.returns-clause-offered
returns-clause-offered g c =
    let at = cluster_read g.K.Cluster.view c.self.inside.setup c.self.inside.clusters.items c.self.inside.hands.items c.args.self.now c.args.from c.index_mut-cluster.result.now
    c.self.view_is c.requires.there c.index_mut-cluster.ensures.value in
    subst (λ (v : ClusterView). c.offer.result ≡ facts_of (offer_of v c.args.to)) (sym at) c.offer.ensures.offered

pub returns-clause-changes : goal.returns-clause-changes
returns-clause-changes g c =
    cluster_written g.K.Cluster.view c.self.inside.setup c.self.inside.clusters.items c.self.inside.hands.items c.args.self.now c.args.from c.index_mut-cluster.result.now c.offer.new.self
    (λ (v : ClusterView). after_offer v c.args.to c.args.now) 0 1
    c.self.view_is c.requires.there c.index_mut-cluster.ensures.value
    c.offer.ensures.view c.keeps.ensures c.offer.ensures.rises c.offer.ensures.room
