-- What the call says of the element, of the cluster by its number.
use Rattle.std.proofs.Common.{◌≡◌, sym, subst}
use Rattle.flat_policy.specs.Policy.Clusters.{ClusterView, after_pull, standing}
use Rattle.flat_policy.specs.Policy.ClusterSteps.{facts_of}
use Rattle.trace_machine.proofs.Changes.{cluster_written}
use Rattle.trace_machine.proofs.Readings.{cluster_read}
use Rattle.trace_machine.proofs.parts.Parts.pull_at.Goals as goal

pub returns-clause-pulled : goal.returns-clause-pulled
returns-clause-pulled g c =
    let at = cluster_read g.K.Cluster.view c.self.inside.setup c.self.inside.clusters.items c.self.inside.hands.items c.args.self.now c.args.c c.index_mut-cluster.result.now
    c.self.view_is c.requires.there c.index_mut-cluster.ensures.value in
    subst (λ (v : ClusterView). c.pull.result ≡ facts_of (standing v c.args.ticket.slot c.args.ticket.arrival)) (sym at) c.pull.ensures.pulled

pub returns-clause-changes : goal.returns-clause-changes
returns-clause-changes g c =
    cluster_written g.K.Cluster.view c.self.inside.setup c.self.inside.clusters.items c.self.inside.hands.items c.args.self.now c.args.c c.index_mut-cluster.result.now c.pull.new.self
    (λ (v : ClusterView). after_pull v (standing v c.args.ticket.slot c.args.ticket.arrival) c.args.now) 0 1
    c.self.view_is c.requires.there c.index_mut-cluster.ensures.value
    c.pull.ensures.view c.keeps.ensures c.pull.ensures.rises c.pull.ensures.room
