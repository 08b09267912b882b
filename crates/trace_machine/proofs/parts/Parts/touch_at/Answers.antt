-- What the call says of the element, of the cluster by its number.
use Rattle.std.proofs.Common.{refl, sym, subst, arith}
use Rattle.flat_policy.specs.Laws.Kept.{RisesBy}
use Rattle.flat_policy.specs.Policy.Clusters.{ClusterView, SameRoom, after_touch}
use Rattle.trace_machine.proofs.Changes.{cluster_written}
use Rattle.trace_machine.proofs.parts.Parts.touch_at.Goals as goal

pub returns : goal.returns
returns g c =
    cluster_written g.K.Cluster.view c.self.inside.setup c.self.inside.clusters.items c.self.inside.hands.items c.args.self.now c.args.c c.index_mut-cluster.result.now c.touch.new.self
    (λ (v : ClusterView). after_touch v c.args.now) 0 0
    c.self.view_is c.requires.there c.index_mut-cluster.ensures.value
    c.touch.ensures.view c.keeps.ensures
    (subst (λ (v : ClusterView). RisesBy 0 0 (g.K.Cluster.view c.index_mut-cluster.result.now).flat v.flat) (sym c.touch.ensures.view) (record { arrival = omega arith; turn = omega arith }))
    (subst (λ (v : ClusterView). SameRoom (g.K.Cluster.view c.index_mut-cluster.result.now) v) (sym c.touch.ensures.view) refl)
