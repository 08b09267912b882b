-- What the call says of the element, of the cluster by its number.
use Rattle.std.proofs.Common.{◌≡◌, sym, subst}
use Rattle.flat_policy.specs.Policy.Clusters.{ClusterView}
use Rattle.trace_machine.proofs.Readings.{cluster_read}
use Rattle.trace_machine.proofs.parts.Parts.is_on.Goals as goal

pub returns : goal.returns
returns g c =
    let at = cluster_read g.K.Cluster.view c.self.inside.setup c.self.inside.clusters.items c.self.inside.hands.items c.args.self.now c.args.c c.index.result.now
    c.self.view_is c.requires c.index.ensures in
    subst (λ (v : ClusterView). c.is_on.result ≡ v.flat.on) (sym at) c.is_on.ensures
