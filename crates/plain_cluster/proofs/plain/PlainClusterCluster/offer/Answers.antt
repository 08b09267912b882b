use Rattle.std.proofs.Common.{◌≡◌, ap, sym, ◌∙◌, subst}
use Rattle.flat_policy.specs.Policy.Clusters.{ClusterView, IsCluster, SameRoom, after_offer, moment_at, offer_of, without_some}
use Rattle.flat_policy.specs.Policy.ClusterSteps.{flat_after_offer}
use Rattle.plain_cluster.specs.PlainParts.{view_of}
use Rattle.plain_cluster.proofs.Wholes.{left_plain, left_view, offered_leaves, whole}
use Rattle.plain_cluster.proofs.plain.PlainClusterCluster.offer.Goals as goal

pub invariant_of-self : goal.invariant_of-self
invariant_of-self c =
    let i = c.self.inside in
    let v = c.args.self.now in
    let k = c.self.invariant in
    let n = c.offer.new.self in
    let o = offer_of v c.args.to in
    let s = flat_after_offer (moment_at v c.args.now) v.flat o in
    let left = offered_leaves i.queue n v c.args.to c.args.now c.max-now.result c.args.mask c.args.rebalance (ap (λ (w : ClusterView). w.flat) c.self.view_is) c.max-now.ensures c.requires.edge c.requires.mask c.offer.ensures.left in
    let view : view_of (whole i.setup i.number n) ≡ after_offer v c.args.to c.args.now =
    left_view i.setup i.number i.queue n o s left ∙ ap (without_some o s) c.self.view_is in
    let stays = c.calls_keep_clusters.ensures v (subst IsCluster c.self.view_is k.cluster) in
    left_plain i.setup i.number i.queue n o s left k (subst IsCluster (sym view) (stays.offering c.args.to c.args.now c.requires.moment))

pub returns-clause-room : goal.returns-clause-room
returns-clause-room c =
    let i = c.self.inside in
    let v = c.args.self.now in
    let k = c.self.invariant in
    let n = c.offer.new.self in
    let o = offer_of v c.args.to in
    let s = flat_after_offer (moment_at v c.args.now) v.flat o in
    let left = offered_leaves i.queue n v c.args.to c.args.now c.max-now.result c.args.mask c.args.rebalance (ap (λ (w : ClusterView). w.flat) c.self.view_is) c.max-now.ensures c.requires.edge c.requires.mask c.offer.ensures.left in
    let view : view_of (whole i.setup i.number n) ≡ after_offer v c.args.to c.args.now =
    left_view i.setup i.number i.queue n o s left ∙ ap (without_some o s) c.self.view_is in
    let stays = c.calls_keep_clusters.ensures v (subst IsCluster c.self.view_is k.cluster) in
    subst (SameRoom v) (sym view) (stays.offering_room c.args.to c.args.now)
