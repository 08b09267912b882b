use Rattle.std.proofs.Common.{List, ℕ, ap, ap₂, sym, ◌∙◌, subst}
use Rattle.flat_policy.specs.declared.setup.Times.{Times}
use Rattle.flat_policy.specs.Laws.Kept.{RisesBy}
use Rattle.flat_policy.specs.Policy.Clusters.{ClusterView, SameRoom, pick_of}
use Rattle.flat_policy.specs.Policy.ClusterSteps.{facts_of}
use Rattle.flat_policy.specs.Policy.Moves.{pick}
use Rattle.cluster_queue.specs.Queues.{flat_of}
use Rattle.cluster_queue.proofs.Calls.{cluster_of, selecting}
use Rattle.cluster_queue.proofs.Wholes.{queue_of}
use Rattle.cluster_queue.proofs.cluster.ClusterQueueCluster.select.Goals as goal

pub select-requires-clause-queue : goal.select-requires-clause-queue
select-requires-clause-queue c = queue_of c.self.inside c.self.invariant

pub invariant_of-self : goal.invariant_of-self
invariant_of-self c =
    (selecting c.calls_keep_clusters.ensures c.args.self.now c.self.inside c.self.view_is c.self.invariant c.select.new.self c.args.now c.max-now.result c.max-now.ensures c.requires.moment c.select.ensures.left).keeps

pub returns-clause-picked : goal.returns-clause-picked
returns-clause-picked c =
    let i = c.self.inside in
    c.select.ensures.picked
    ∙ (ap₂ (λ (ts : List Times) (m : ℕ). facts_of (pick ts m (flat_of i.queue))) c.self.invariant.times c.max-now.ensures
    ∙ ap (λ (w : ClusterView). facts_of (pick_of w c.args.now)) c.self.view_is)

pub returns-clause-view : goal.returns-clause-view
returns-clause-view c =
    (selecting c.calls_keep_clusters.ensures c.args.self.now c.self.inside c.self.view_is c.self.invariant c.select.new.self c.args.now c.max-now.result c.max-now.ensures c.requires.moment c.select.ensures.left).view

pub returns-clause-rises : goal.returns-clause-rises
returns-clause-rises c =
    let v = c.args.self.now in
    let b = selecting c.calls_keep_clusters.ensures v c.self.inside c.self.view_is c.self.invariant c.select.new.self c.args.now c.max-now.result c.max-now.ensures c.requires.moment c.select.ensures.left in
    let cluster = cluster_of c.calls_keep_clusters.ensures v c.self.inside c.self.view_is c.self.invariant in
    subst (λ (w : ClusterView). RisesBy 0 1 v.flat w.flat) (sym b.view) ((c.calls_keep_clusters.ensures v cluster).selecting_rises c.args.now)

pub returns-clause-room : goal.returns-clause-room
returns-clause-room c =
    let v = c.args.self.now in
    let b = selecting c.calls_keep_clusters.ensures v c.self.inside c.self.view_is c.self.invariant c.select.new.self c.args.now c.max-now.result c.max-now.ensures c.requires.moment c.select.ensures.left in
    let cluster = cluster_of c.calls_keep_clusters.ensures v c.self.inside c.self.view_is c.self.invariant in
    subst (SameRoom v) (sym b.view) ((c.calls_keep_clusters.ensures v cluster).selecting_room c.args.now)
