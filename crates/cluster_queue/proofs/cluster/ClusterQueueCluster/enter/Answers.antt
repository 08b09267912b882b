use Rattle.std.proofs.Common.{Contains, sym, subst, arith}
use Rattle.flat_policy.specs.Policy.Clusters.{ClusterView}
use Rattle.cluster_queue.proofs.Calls.{cluster_of, entering}
use Rattle.cluster_queue.proofs.Wholes.{queue_of}
use Rattle.cluster_queue.proofs.cluster.ClusterQueueCluster.enter.Goals as goal

pub enter-requires-clause-queue : goal.enter-requires-clause-queue
enter-requires-clause-queue c = queue_of c.self.inside c.self.invariant

pub enter-requires-clause-prefer : goal.enter-requires-clause-prefer
enter-requires-clause-prefer c =
    let v = c.args.self.now in
    let cluster = cluster_of c.calls_keep_clusters.ensures v c.self.inside c.self.view_is c.self.invariant in
    omega (arith, c.fitting_prefers_among.ensures v.setup c.args.t cluster.setup c.requires.fits, cluster.setup.clusters_most)

pub invariant_of-self : goal.invariant_of-self
invariant_of-self c =
    let v = c.args.self.now in
    let keep = c.calls_keep_clusters.ensures in
    let slot = c.enter.result.slot in
    let free : Contains v.slots slot → ⊥ = λ there. c.enter.ensures.slot (subst (λ (w : ClusterView). Contains w.slots slot) (sym c.self.view_is) there) in
    (entering keep v c.self.inside c.self.view_is c.self.invariant c.enter.new.self c.args.t c.args.head c.args.now c.max-now.result slot c.max-now.ensures c.enter.ensures.flat c.enter.ensures.slots c.enter.ensures.spare
    c.enter.ensures.nested c.enter.ensures.setting
    ((keep v (cluster_of keep v c.self.inside c.self.view_is c.self.invariant)).entering c.args.t c.args.head c.args.now slot c.requires.few c.requires.fits c.requires.moment free)).keeps

pub returns-clause-view : goal.returns-clause-view
returns-clause-view c =
    let v = c.args.self.now in
    let keep = c.calls_keep_clusters.ensures in
    let slot = c.enter.result.slot in
    let free : Contains v.slots slot → ⊥ = λ there. c.enter.ensures.slot (subst (λ (w : ClusterView). Contains w.slots slot) (sym c.self.view_is) there) in
    (entering keep v c.self.inside c.self.view_is c.self.invariant c.enter.new.self c.args.t c.args.head c.args.now c.max-now.result slot c.max-now.ensures c.enter.ensures.flat c.enter.ensures.slots c.enter.ensures.spare
    c.enter.ensures.nested c.enter.ensures.setting
    ((keep v (cluster_of keep v c.self.inside c.self.view_is c.self.invariant)).entering c.args.t c.args.head c.args.now slot c.requires.few c.requires.fits c.requires.moment free)).view
