use Rattle.std.proofs.Common.{◌≡◌, max, ℕ, ap, ap₂, sym, ◌∙◌, subst, arith}
use Rattle.flat_policy.specs.Laws.Kept.{RisesBy}
use Rattle.flat_policy.specs.Policy.Clusters.{ClusterView, IsCluster, moment_at}
use Rattle.plain_cluster.specs.Entries.{slots_of}
use Rattle.plain_cluster.specs.PlainParts.{view_of}
use Rattle.plain_cluster.specs.Queues.{flat_of}
use Rattle.flat_policy.specs.Policy.Clusters.{after_refresh}
use Rattle.flat_policy.specs.Policy.Refresh.{refreshed}
use Rattle.flat_policy.specs.Policy.Setup.{group_count}
use Rattle.plain_cluster.proofs.Wholes.{same_view, still_plain, whole}
use Rattle.plain_cluster.proofs.plain.PlainClusterCluster.refresh.Goals as goal

pub invariant_of-self : goal.invariant_of-self
invariant_of-self c =
    let i = c.self.inside in
    let v = c.args.self.now in
    let k = c.self.invariant in
    let n = c.refresh.new.self in
    let q = i.queue in
    let g = group_count i.setup in
    let flat : flat_of n ≡ refreshed g (flat_of q) (max c.args.now q.last) =
    c.refresh.ensures.flat ∙ ap₂ (λ (m t : ℕ). refreshed m (flat_of q) t) k.groups c.max-now.ensures in
    let view : view_of (whole i.setup i.number n) ≡ after_refresh v c.args.now =
    same_view i.setup i.number (flat_of n) (refreshed g (flat_of q) (max c.args.now q.last)) (slots_of n.rows.rows) (slots_of q.rows.rows) n.rows.spare q.rows.spare flat c.refresh.ensures.slots c.refresh.ensures.spare
    ∙ ap (λ (w : ClusterView). after_refresh w c.args.now) c.self.view_is in
    let cluster = subst IsCluster c.self.view_is k.cluster in
    still_plain i.setup i.number q n k (subst IsCluster (sym view) ((c.calls_keep_clusters.ensures v cluster).refreshing c.args.now c.requires.moment))
    c.refresh.ensures.flags c.refresh.ensures.groups c.refresh.ensures.times

pub returns-clause-rises : goal.returns-clause-rises
returns-clause-rises c =
    let i = c.self.inside in
    let v = c.args.self.now in
    let k = c.self.invariant in
    let n = c.refresh.new.self in
    let q = i.queue in
    let g = group_count i.setup in
    let flat : flat_of n ≡ refreshed g (flat_of q) (max c.args.now q.last) =
    c.refresh.ensures.flat ∙ ap₂ (λ (m t : ℕ). refreshed m (flat_of q) t) k.groups c.max-now.ensures in
    let view : view_of (whole i.setup i.number n) ≡ after_refresh v c.args.now =
    same_view i.setup i.number (flat_of n) (refreshed g (flat_of q) (max c.args.now q.last)) (slots_of n.rows.rows) (slots_of q.rows.rows) n.rows.spare q.rows.spare flat c.refresh.ensures.slots c.refresh.ensures.spare
    ∙ ap (λ (w : ClusterView). after_refresh w c.args.now) c.self.view_is in
    let cluster = subst IsCluster c.self.view_is k.cluster in
    let rises = (c.steps_rise_by_few.ensures v.setup v.flat).refreshing (moment_at v c.args.now) in
    subst (λ (w : ClusterView). RisesBy 0 384 v.flat w.flat) (sym view)
    (record { arrival = rises.arrival; turn = omega (arith, rises.turn, cluster.setup.groups_most) })
