-- What the call says of the element, of the cluster by its number.
use Rattle.std.proofs.Common.{◌≡◌, Contains, sym, subst}
use Rattle.flat_policy.specs.Policy.Clusters.{ClusterView, entered_in, moment_at}
use Rattle.flat_policy.specs.Policy.Moves.{new_entry, settled_thread}
use Rattle.trace_machine.proofs.Changes.{cluster_written}
use Rattle.trace_machine.proofs.Readings.{cluster_read}
use Rattle.trace_machine.proofs.parts.Parts.enter_at.Goals as goal

pub returns-clause-cluster : goal.returns-clause-cluster
returns-clause-cluster g c =
    let at = cluster_read g.K.Cluster.view c.self.inside.setup c.self.inside.clusters.items c.self.inside.hands.items c.args.self.now c.args.c c.index_mut-cluster.result.now
    c.self.view_is c.requires.there c.index_mut-cluster.ensures.value in
    subst (λ (v : ClusterView). c.enter.result.cluster ≡ v.number) (sym at) c.enter.ensures.cluster

pub returns-clause-arrival : goal.returns-clause-arrival
returns-clause-arrival g c =
    let at = cluster_read g.K.Cluster.view c.self.inside.setup c.self.inside.clusters.items c.self.inside.hands.items c.args.self.now c.args.c c.index_mut-cluster.result.now
    c.self.view_is c.requires.there c.index_mut-cluster.ensures.value in
    subst (λ (v : ClusterView). c.enter.result.arrival ≡ v.flat.next_arrival) (sym at) c.enter.ensures.arrival

pub returns-clause-pri : goal.returns-clause-pri
returns-clause-pri g c =
    let at = cluster_read g.K.Cluster.view c.self.inside.setup c.self.inside.clusters.items c.self.inside.hands.items c.args.self.now c.args.c c.index_mut-cluster.result.now
    c.self.view_is c.requires.there c.index_mut-cluster.ensures.value in
    subst (λ (v : ClusterView). c.enter.result.pri ≡ (new_entry v.flat (settled_thread (moment_at v c.args.now) c.args.thread) c.args.head).pri) (sym at) c.enter.ensures.pri

pub returns-clause-slot : goal.returns-clause-slot
returns-clause-slot g c =
    let at = cluster_read g.K.Cluster.view c.self.inside.setup c.self.inside.clusters.items c.self.inside.hands.items c.args.self.now c.args.c c.index_mut-cluster.result.now
    c.self.view_is c.requires.there c.index_mut-cluster.ensures.value in
    subst (λ (v : ClusterView). ¬ Contains v.slots c.enter.result.slot) (sym at) c.enter.ensures.slot

pub returns-clause-changes : goal.returns-clause-changes
returns-clause-changes g c =
    cluster_written g.K.Cluster.view c.self.inside.setup c.self.inside.clusters.items c.self.inside.hands.items c.args.self.now c.args.c c.index_mut-cluster.result.now c.enter.new.self
    (λ (v : ClusterView). entered_in v c.args.thread c.args.head c.args.now c.enter.result.slot) 1 1
    c.self.view_is c.requires.there c.index_mut-cluster.ensures.value
    c.enter.ensures.view c.keeps.ensures c.enter.ensures.rises c.enter.ensures.room
