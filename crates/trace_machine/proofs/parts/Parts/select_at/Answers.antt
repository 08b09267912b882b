-- What the call says of the element, of the cluster by its number.
use Rattle.std.proofs.Common.{◌≡◌, sym, subst}
use Rattle.flat_policy.specs.Policy.Clusters.{ClusterView, after_select, pick_of}
use Rattle.flat_policy.specs.Policy.ClusterSteps.{facts_of}
use Rattle.trace_machine.proofs.Changes.{cluster_written}
use Rattle.trace_machine.proofs.Readings.{cluster_read}
use Rattle.trace_machine.proofs.parts.Parts.select_at.Goals as goal

pub returns-clause-picked : goal.returns-clause-picked
returns-clause-picked g c =
    let at = cluster_read g.K.Cluster.view c.self.inside.setup c.self.inside.clusters.items c.self.inside.hands.items c.args.self.now c.args.c c.index_mut-cluster.result.now
    c.self.view_is c.requires.there c.index_mut-cluster.ensures.value in
    subst (λ (v : ClusterView). c.select.result ≡ facts_of (pick_of v c.args.now)) (sym at) c.select.ensures.picked

pub returns-clause-changes : goal.returns-clause-changes
returns-clause-changes g c =
    cluster_written g.K.Cluster.view c.self.inside.setup c.self.inside.clusters.items c.self.inside.hands.items c.args.self.now c.args.c c.index_mut-cluster.result.now c.select.new.self
    (λ (v : ClusterView). after_select v c.args.now) 0 1
    c.self.view_is c.requires.there c.index_mut-cluster.ensures.value
    c.select.ensures.view c.keeps.ensures c.select.ensures.rises c.select.ensures.room
