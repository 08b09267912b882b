use Rattle.std.proofs.Common.{◌≡◌, max, List, ℕ, ap, ap₂, sym, ◌∙◌, subst}
use Rattle.flat_policy.specs.declared.setup.Times.{Times}
use Rattle.flat_policy.specs.Laws.Kept.{RisesBy}
use Rattle.flat_policy.specs.Policy.Clusters.{ClusterView, IsCluster, SameRoom, after_select, pick_of}
use Rattle.flat_policy.specs.Policy.ClusterSteps.{facts_of}
use Rattle.flat_policy.specs.Policy.Moves.{pick, selected}
use Rattle.flat_policy.specs.Policy.Setup.{cluster_times}
use Rattle.plain_cluster.specs.PlainParts.{view_of}
use Rattle.plain_cluster.specs.Queues.{flat_of}
use Rattle.plain_cluster.proofs.Wholes.{left_plain, left_view, selected_leaves, whole}
use Rattle.plain_cluster.proofs.plain.PlainClusterCluster.select.Goals as goal

pub invariant_of-self : goal.invariant_of-self
invariant_of-self c =
    let i = c.self.inside in
    let v = c.args.self.now in
    let k = c.self.invariant in
    let n = c.select.new.self in
    let left = selected_leaves i.setup i.number i.queue n c.args.now c.max-now.result k c.max-now.ensures c.select.ensures.left in
    let view : view_of (whole i.setup i.number n) ≡ after_select v c.args.now =
    left_view i.setup i.number i.queue n (pick (cluster_times i.setup i.number) (max c.args.now i.queue.last) (flat_of i.queue)) (selected (cluster_times i.setup i.number) (max c.args.now i.queue.last) (flat_of i.queue)) left
    ∙ ap (λ (w : ClusterView). after_select w c.args.now) c.self.view_is in
    let stays = c.calls_keep_clusters.ensures v (subst IsCluster c.self.view_is k.cluster) in
    left_plain i.setup i.number i.queue n (pick (cluster_times i.setup i.number) (max c.args.now i.queue.last) (flat_of i.queue)) (selected (cluster_times i.setup i.number) (max c.args.now i.queue.last) (flat_of i.queue)) left k
    (subst IsCluster (sym view) (stays.selecting c.args.now c.requires.moment))

pub returns-clause-picked : goal.returns-clause-picked
returns-clause-picked c =
    let i = c.self.inside in
    c.select.ensures.picked
    ∙ (ap₂ (λ (ts : List Times) (m : ℕ). facts_of (pick ts m (flat_of i.queue))) c.self.invariant.times c.max-now.ensures
    ∙ ap (λ (w : ClusterView). facts_of (pick_of w c.args.now)) c.self.view_is)

pub returns-clause-view : goal.returns-clause-view
returns-clause-view c =
    let i = c.self.inside in
    let v = c.args.self.now in
    let k = c.self.invariant in
    let n = c.select.new.self in
    let left = selected_leaves i.setup i.number i.queue n c.args.now c.max-now.result k c.max-now.ensures c.select.ensures.left in
    let view : view_of (whole i.setup i.number n) ≡ after_select v c.args.now =
    left_view i.setup i.number i.queue n (pick (cluster_times i.setup i.number) (max c.args.now i.queue.last) (flat_of i.queue)) (selected (cluster_times i.setup i.number) (max c.args.now i.queue.last) (flat_of i.queue)) left
    ∙ ap (λ (w : ClusterView). after_select w c.args.now) c.self.view_is in
    let stays = c.calls_keep_clusters.ensures v (subst IsCluster c.self.view_is k.cluster) in
    view

pub returns-clause-rises : goal.returns-clause-rises
returns-clause-rises c =
    let i = c.self.inside in
    let v = c.args.self.now in
    let k = c.self.invariant in
    let n = c.select.new.self in
    let left = selected_leaves i.setup i.number i.queue n c.args.now c.max-now.result k c.max-now.ensures c.select.ensures.left in
    let view : view_of (whole i.setup i.number n) ≡ after_select v c.args.now =
    left_view i.setup i.number i.queue n (pick (cluster_times i.setup i.number) (max c.args.now i.queue.last) (flat_of i.queue)) (selected (cluster_times i.setup i.number) (max c.args.now i.queue.last) (flat_of i.queue)) left
    ∙ ap (λ (w : ClusterView). after_select w c.args.now) c.self.view_is in
    let stays = c.calls_keep_clusters.ensures v (subst IsCluster c.self.view_is k.cluster) in
    subst (λ (w : ClusterView). RisesBy 0 1 v.flat w.flat) (sym view) (stays.selecting_rises c.args.now)

pub returns-clause-room : goal.returns-clause-room
returns-clause-room c =
    let i = c.self.inside in
    let v = c.args.self.now in
    let k = c.self.invariant in
    let n = c.select.new.self in
    let left = selected_leaves i.setup i.number i.queue n c.args.now c.max-now.result k c.max-now.ensures c.select.ensures.left in
    let view : view_of (whole i.setup i.number n) ≡ after_select v c.args.now =
    left_view i.setup i.number i.queue n (pick (cluster_times i.setup i.number) (max c.args.now i.queue.last) (flat_of i.queue)) (selected (cluster_times i.setup i.number) (max c.args.now i.queue.last) (flat_of i.queue)) left
    ∙ ap (λ (w : ClusterView). after_select w c.args.now) c.self.view_is in
    let stays = c.calls_keep_clusters.ensures v (subst IsCluster c.self.view_is k.cluster) in
    subst (SameRoom v) (sym view) (stays.selecting_room c.args.now)
