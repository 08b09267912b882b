use Rattle.std.proofs.Common.{ap, sym, ◌∙◌, subst, arith}
use Rattle.flat_policy.specs.Laws.Kept.{RisesBy}
use Rattle.flat_policy.specs.Policy.Clusters.{ClusterView, moment_at}
use Rattle.flat_policy.specs.Policy.Refresh.{repriced_count}
use Rattle.cluster_queue.specs.Queues.{flat_of}
use Rattle.cluster_queue.proofs.Calls.{cluster_of, refreshing}
use Rattle.cluster_queue.proofs.Wholes.{queue_of}
use Rattle.cluster_queue.proofs.cluster.ClusterQueueCluster.refresh.Goals as goal

pub refresh-requires-clause-queue : goal.refresh-requires-clause-queue
refresh-requires-clause-queue c = queue_of c.self.inside c.self.invariant

pub invariant_of-self : goal.invariant_of-self
invariant_of-self c =
    (refreshing c.calls_keep_clusters.ensures c.args.self.now c.self.inside c.self.view_is c.self.invariant c.refresh.new.self c.args.now c.max-now.result c.max-now.ensures c.requires.moment c.refresh.ensures.stays).keeps

pub returns-clause-changed : goal.returns-clause-changed
returns-clause-changed c =
    let i = c.self.inside in
    c.refresh.ensures.changed
    ∙ (ap (repriced_count (flat_of i.queue)) c.max-now.ensures ∙ ap (λ (w : ClusterView). repriced_count w.flat (moment_at w c.args.now)) c.self.view_is)

pub returns-clause-view : goal.returns-clause-view
returns-clause-view c =
    (refreshing c.calls_keep_clusters.ensures c.args.self.now c.self.inside c.self.view_is c.self.invariant c.refresh.new.self c.args.now c.max-now.result c.max-now.ensures c.requires.moment c.refresh.ensures.stays).view

pub returns-clause-rises : goal.returns-clause-rises
returns-clause-rises c =
    let v = c.args.self.now in
    let b = refreshing c.calls_keep_clusters.ensures v c.self.inside c.self.view_is c.self.invariant c.refresh.new.self c.args.now c.max-now.result c.max-now.ensures c.requires.moment c.refresh.ensures.stays in
    let cluster = cluster_of c.calls_keep_clusters.ensures v c.self.inside c.self.view_is c.self.invariant in
    let rises = (c.steps_rise_by_few.ensures v.setup v.flat).refreshing (moment_at v c.args.now) in
    subst (λ (w : ClusterView). RisesBy 0 384 v.flat w.flat) (sym b.view)
    (record { arrival = rises.arrival; turn = omega (arith, rises.turn, cluster.setup.groups_most) })
