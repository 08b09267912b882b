use Rattle.std.proofs.Common.{◌≡◌, ◌*◌, ◌/◌, ◌&&◌, List, ℕ, count_by, nat_le, ap, ap₂, sym, ◌∙◌}
use Rattle.sched_base.specs.Bucket.{index}
use Rattle.flat_policy.specs.declared.setup.Times.{Times}
use Rattle.flat_policy.specs.Policy.Clusters.{ClusterView}
use Rattle.flat_policy.specs.Policy.Offer.{is_unbound}
use Rattle.flat_policy.specs.Policy.Queue.{Queued}
use Rattle.flat_policy.specs.Policy.Setup.{cluster_times, cpus_of, times_for}
use Rattle.cluster_queue.specs.Queues.{flat_of}
use Rattle.cluster_queue.proofs.Calls.{touching}
use Rattle.cluster_queue.proofs.Wholes.{queue_of}
use Rattle.cluster_queue.proofs.cluster.ClusterQueueCluster.look.Goals as goal

pub touch-requires : goal.touch-requires
touch-requires c = queue_of c.self.inside c.self.invariant

pub invariant_of-self : goal.invariant_of-self
invariant_of-self c =
    (touching c.calls_keep_clusters.ensures c.args.self.now c.self.inside c.self.view_is c.self.invariant c.touch.new.self c.args.now c.max-now.result c.max-now.ensures c.requires.moment c.touch.ensures.stays).keeps

pub returns-clause-view : goal.returns-clause-view
returns-clause-view c =
    (touching c.calls_keep_clusters.ensures c.args.self.now c.self.inside c.self.view_is c.self.invariant c.touch.new.self c.args.now c.max-now.result c.max-now.ensures c.requires.moment c.touch.ensures.stays).view

pub returns-clause-load : goal.returns-clause-load
returns-clause-load c = λ times is.
    let q = c.self.inside.queue in
    let b = c.args.b in
    let counts = λ (es : List Queued). count_by (λ (e : Queued). is_unbound e.facts && nat_le (index e.facts.bucket) (index b)) es in
    let count = c.count_unbound-count.ensures.count q.arena q.groups (flat_of q) c.self.invariant.nested.stored.heaps ∙ ap (λ (w : ClusterView). counts w.flat.entries) c.self.view_is in
    let quantum : c.times-quantum.result ≡ times =
    c.times-quantum.ensures.times ∙ (ap (λ (w : ClusterView). times_for (cluster_times w.setup w.number) b) c.self.view_is ∙ sym is) in
    let cpus = c.from.ensures ∙ (c.cpus-cpus.ensures.cpus ∙ ap (λ (w : ClusterView). cpus_of w.setup w.number) c.self.view_is) in
    ap₂ (λ (m n : ℕ). m / n) (ap₂ (λ (m : ℕ) (t : Times). m * t.quantum) count quantum) cpus
