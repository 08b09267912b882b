use Rattle.std.proofs.Common.{Contains, ap, sym, ◌∙◌, subst}
use Rattle.flat_policy.specs.Policy.Clusters.{ClusterView, IsCluster, SameRoom, entered_in}
use Rattle.plain_cluster.proofs.Wholes.{entered_view, still_plain}
use Rattle.plain_cluster.proofs.plain.PlainClusterCluster.enter.Goals as goal

pub invariant_of-self : goal.invariant_of-self
invariant_of-self c =
    let i = c.self.inside in
    let v = c.args.self.now in
    let k = c.self.invariant in
    let n = c.enter.new.self in
    let view = entered_view i.setup i.number i.queue n c.args.t c.args.head c.args.now c.max-now.result c.enter.result.slot k c.max-now.ensures c.enter.ensures.flat c.enter.ensures.slots c.enter.ensures.spare
    ∙ ap (λ (w : ClusterView). entered_in w c.args.t c.args.head c.args.now c.enter.result.slot) c.self.view_is in
    let stays = c.calls_keep_clusters.ensures v (subst IsCluster c.self.view_is k.cluster) in
    let free : Contains v.slots c.enter.result.slot → ⊥ = λ there. c.enter.ensures.slot (subst (λ (w : ClusterView). Contains w.slots c.enter.result.slot) (sym c.self.view_is) there) in
    still_plain i.setup i.number i.queue n k
    (subst IsCluster (sym view) (stays.entering c.args.t c.args.head c.args.now c.enter.result.slot c.requires.few c.requires.fits c.requires.moment free))
    c.enter.ensures.flags c.enter.ensures.groups c.enter.ensures.times

pub returns-clause-room : goal.returns-clause-room
returns-clause-room c =
    let i = c.self.inside in
    let v = c.args.self.now in
    let k = c.self.invariant in
    let n = c.enter.new.self in
    let view = entered_view i.setup i.number i.queue n c.args.t c.args.head c.args.now c.max-now.result c.enter.result.slot k c.max-now.ensures c.enter.ensures.flat c.enter.ensures.slots c.enter.ensures.spare
    ∙ ap (λ (w : ClusterView). entered_in w c.args.t c.args.head c.args.now c.enter.result.slot) c.self.view_is in
    let stays = c.calls_keep_clusters.ensures v (subst IsCluster c.self.view_is k.cluster) in
    subst (SameRoom v) (sym view) (stays.entering_room c.args.t c.args.head c.args.now c.enter.result.slot c.requires.spare)
