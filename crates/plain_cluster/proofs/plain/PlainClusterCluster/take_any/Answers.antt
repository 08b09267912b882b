use Rattle.std.proofs.Common.{◌≡◌, ◌<◌, ◌-◌, max, Contains, ℕ, Some, length, ap, sym, ◌∙◌, subst, arith}
use Rattle.flat_policy.specs.Laws.Kept.{RisesBy}
use Rattle.flat_policy.specs.Policy.Clusters.{ClusterView, IsCluster, SameRoom, after_pull, moment_at}
use Rattle.flat_policy.specs.Policy.Moves.{removed}
use Rattle.plain_cluster.specs.PlainParts.{view_of}
use Rattle.plain_cluster.specs.Queues.{TakesOut, flat_of}
use Rattle.plain_cluster.proofs.Picking.{there_is}
use Rattle.plain_cluster.proofs.Wholes.{left_plain, left_view, stands_at, whole}
use Rattle.plain_cluster.proofs.plain.PlainClusterCluster.take_any.Goals as goal

pub invariant_of-self : goal.invariant_of-self
invariant_of-self c =
    let i = c.self.inside in
    let v = c.args.self.now in
    let k = c.self.invariant in
    let n = c.remove.new.self in
    let q = i.queue in
    let place = c.len-len.result - 1 in
    let within : place < length q.rows.rows = omega (arith, c.len-len.ensures, c.if-len-eq0.false) in
    let e = there_is q.rows.rows place within in
    let same : q.last ≡ max q.last q.last = omega arith in
    let taken : TakesOut q n e.0 (removed e.0 (max q.last q.last) (flat_of q)) =
    subst (λ (m : ℕ). TakesOut q n e.0 (removed e.0 m (flat_of q))) same (c.remove.ensures.taken e.0 e.1) in
    let view : view_of (whole i.setup i.number n) ≡ after_pull v (Some e.0) v.flat.last =
    left_view i.setup i.number q n (Some e.0) (removed e.0 (max q.last q.last) (flat_of q)) taken
    ∙ ap (λ (w : ClusterView). after_pull w (Some e.0) w.flat.last) c.self.view_is in
    let here : Contains v.flat.entries e.0 = subst (λ (w : ClusterView). Contains w.flat.entries e.0) c.self.view_is (stands_at q place e.0 e.1) in
    let cluster = subst IsCluster c.self.view_is k.cluster in
    let stays = c.calls_keep_clusters.ensures v cluster in
    left_plain i.setup i.number q n (Some e.0) (removed e.0 (max q.last q.last) (flat_of q)) taken k
    (subst IsCluster (sym view) (stays.pulling e.0 v.flat.last here cluster.fits.last))

pub returns-clause-taken : goal.returns-clause-taken
returns-clause-taken c =
    let i = c.self.inside in
    let v = c.args.self.now in
    let k = c.self.invariant in
    let n = c.remove.new.self in
    let q = i.queue in
    let place = c.len-len.result - 1 in
    let within : place < length q.rows.rows = omega (arith, c.len-len.ensures, c.if-len-eq0.false) in
    let e = there_is q.rows.rows place within in
    let same : q.last ≡ max q.last q.last = omega arith in
    let taken : TakesOut q n e.0 (removed e.0 (max q.last q.last) (flat_of q)) =
    subst (λ (m : ℕ). TakesOut q n e.0 (removed e.0 m (flat_of q))) same (c.remove.ensures.taken e.0 e.1) in
    let view : view_of (whole i.setup i.number n) ≡ after_pull v (Some e.0) v.flat.last =
    left_view i.setup i.number q n (Some e.0) (removed e.0 (max q.last q.last) (flat_of q)) taken
    ∙ ap (λ (w : ClusterView). after_pull w (Some e.0) w.flat.last) c.self.view_is in
    let here : Contains v.flat.entries e.0 = subst (λ (w : ClusterView). Contains w.flat.entries e.0) c.self.view_is (stands_at q place e.0 e.1) in
    let cluster = subst IsCluster c.self.view_is k.cluster in
    let stays = c.calls_keep_clusters.ensures v cluster in
    (Some e.0, here, ap Some (c.remove.ensures.thread e.0 e.1), view)

pub returns-clause-rises : goal.returns-clause-rises
returns-clause-rises c =
    let i = c.self.inside in
    let v = c.args.self.now in
    let k = c.self.invariant in
    let n = c.remove.new.self in
    let q = i.queue in
    let place = c.len-len.result - 1 in
    let within : place < length q.rows.rows = omega (arith, c.len-len.ensures, c.if-len-eq0.false) in
    let e = there_is q.rows.rows place within in
    let same : q.last ≡ max q.last q.last = omega arith in
    let taken : TakesOut q n e.0 (removed e.0 (max q.last q.last) (flat_of q)) =
    subst (λ (m : ℕ). TakesOut q n e.0 (removed e.0 m (flat_of q))) same (c.remove.ensures.taken e.0 e.1) in
    let view : view_of (whole i.setup i.number n) ≡ after_pull v (Some e.0) v.flat.last =
    left_view i.setup i.number q n (Some e.0) (removed e.0 (max q.last q.last) (flat_of q)) taken
    ∙ ap (λ (w : ClusterView). after_pull w (Some e.0) w.flat.last) c.self.view_is in
    let here : Contains v.flat.entries e.0 = subst (λ (w : ClusterView). Contains w.flat.entries e.0) c.self.view_is (stands_at q place e.0 e.1) in
    let cluster = subst IsCluster c.self.view_is k.cluster in
    let stays = c.calls_keep_clusters.ensures v cluster in
    subst (λ (w : ClusterView). RisesBy 0 1 v.flat w.flat) (sym view) ((c.steps_rise_by_few.ensures v.setup v.flat).pulling e.0 (moment_at v v.flat.last))

pub returns-clause-room : goal.returns-clause-room
returns-clause-room c =
    let i = c.self.inside in
    let v = c.args.self.now in
    let k = c.self.invariant in
    let n = c.remove.new.self in
    let q = i.queue in
    let place = c.len-len.result - 1 in
    let within : place < length q.rows.rows = omega (arith, c.len-len.ensures, c.if-len-eq0.false) in
    let e = there_is q.rows.rows place within in
    let same : q.last ≡ max q.last q.last = omega arith in
    let taken : TakesOut q n e.0 (removed e.0 (max q.last q.last) (flat_of q)) =
    subst (λ (m : ℕ). TakesOut q n e.0 (removed e.0 m (flat_of q))) same (c.remove.ensures.taken e.0 e.1) in
    let view : view_of (whole i.setup i.number n) ≡ after_pull v (Some e.0) v.flat.last =
    left_view i.setup i.number q n (Some e.0) (removed e.0 (max q.last q.last) (flat_of q)) taken
    ∙ ap (λ (w : ClusterView). after_pull w (Some e.0) w.flat.last) c.self.view_is in
    let here : Contains v.flat.entries e.0 = subst (λ (w : ClusterView). Contains w.flat.entries e.0) c.self.view_is (stands_at q place e.0 e.1) in
    let cluster = subst IsCluster c.self.view_is k.cluster in
    let stays = c.calls_keep_clusters.ensures v cluster in
    subst (SameRoom v) (sym view) (stays.pulling_room e.0 v.flat.last here)
