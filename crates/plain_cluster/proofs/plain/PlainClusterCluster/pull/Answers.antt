use Rattle.std.proofs.Common.{◌≡◌, ◌<◌, max, Contains, List, Option, ℕ, Some, length, refl, ap, sym, ◌∙◌, subst, arith}
use Rattle.flat_policy.specs.Laws.Kept.{RisesBy}
use Rattle.flat_policy.specs.Policy.Clusters.{ClusterView, IsCluster, SameRoom, after_pull, moment_at, standing}
use Rattle.flat_policy.specs.Policy.ClusterSteps.{facts_of}
use Rattle.flat_policy.specs.Policy.Moves.{removed}
use Rattle.flat_policy.specs.Policy.Queue.{Queued}
use Rattle.plain_cluster.specs.Entries.{Slotted, entry_at}
use Rattle.plain_cluster.specs.PlainParts.{view_of}
use Rattle.plain_cluster.specs.Queues.{TakesOut, flat_of}
use Rattle.plain_cluster.proofs.Picking.{there_is}
use Rattle.plain_cluster.proofs.Standing.{standing_in}
use Rattle.plain_cluster.proofs.Wholes.{left_plain, left_view, stands_at, whole}
use Rattle.plain_cluster.proofs.plain.PlainClusterCluster.pull.Goals as goal

pub invariant_of-self : goal.invariant_of-self
invariant_of-self c =
    let i = c.self.inside in
    let v = c.args.self.now in
    let k = c.self.invariant in
    let n = c.remove.new.self in
    let q = i.queue in
    let within : c.in-Some.place < length q.rows.rows = omega (arith, c.in-Some.ensures.there c.in-Some.place refl, ap length c.as_slice.ensures) in
    let e = there_is q.rows.rows c.in-Some.place within in
    let found : standing v c.args.t.slot c.args.t.arrival ≡ Some e.0 =
    sym (ap (λ (w : ClusterView). standing w c.args.t.slot c.args.t.arrival) c.self.view_is)
    ∙ (ap (standing_in c.args.t.slot c.args.t.arrival) (sym c.as_slice.ensures)
    ∙ (sym c.in-Some.ensures.place ∙ (ap (λ (rs : List Slotted). entry_at rs (Some c.in-Some.place)) c.as_slice.ensures ∙ e.1))) in
    let taken : TakesOut q n e.0 (removed e.0 (max c.args.now q.last) (flat_of q)) =
    subst (λ (m : ℕ). TakesOut q n e.0 (removed e.0 m (flat_of q))) c.max-now.ensures (c.remove.ensures.taken e.0 e.1) in
    let view : view_of (whole i.setup i.number n) ≡ after_pull v (Some e.0) c.args.now =
    left_view i.setup i.number q n (Some e.0) (removed e.0 (max c.args.now q.last) (flat_of q)) taken
    ∙ ap (λ (w : ClusterView). after_pull w (Some e.0) c.args.now) c.self.view_is in
    let stays = c.calls_keep_clusters.ensures v (subst IsCluster c.self.view_is k.cluster) in
    left_plain i.setup i.number q n (Some e.0) (removed e.0 (max c.args.now q.last) (flat_of q)) taken k
    (subst IsCluster (sym view) (stays.pulling e.0 c.args.now (subst (λ (w : ClusterView). Contains w.flat.entries e.0) c.self.view_is (stands_at q c.in-Some.place e.0 e.1)) c.requires.moment))

pub returns-in-Some-clause-pulled : goal.returns-in-Some-clause-pulled
returns-in-Some-clause-pulled c =
    let i = c.self.inside in
    let v = c.args.self.now in
    let k = c.self.invariant in
    let n = c.remove.new.self in
    let q = i.queue in
    let within : c.in-Some.place < length q.rows.rows = omega (arith, c.in-Some.ensures.there c.in-Some.place refl, ap length c.as_slice.ensures) in
    let e = there_is q.rows.rows c.in-Some.place within in
    let found : standing v c.args.t.slot c.args.t.arrival ≡ Some e.0 =
    sym (ap (λ (w : ClusterView). standing w c.args.t.slot c.args.t.arrival) c.self.view_is)
    ∙ (ap (standing_in c.args.t.slot c.args.t.arrival) (sym c.as_slice.ensures)
    ∙ (sym c.in-Some.ensures.place ∙ (ap (λ (rs : List Slotted). entry_at rs (Some c.in-Some.place)) c.as_slice.ensures ∙ e.1))) in
    let taken : TakesOut q n e.0 (removed e.0 (max c.args.now q.last) (flat_of q)) =
    subst (λ (m : ℕ). TakesOut q n e.0 (removed e.0 m (flat_of q))) c.max-now.ensures (c.remove.ensures.taken e.0 e.1) in
    let view : view_of (whole i.setup i.number n) ≡ after_pull v (Some e.0) c.args.now =
    left_view i.setup i.number q n (Some e.0) (removed e.0 (max c.args.now q.last) (flat_of q)) taken
    ∙ ap (λ (w : ClusterView). after_pull w (Some e.0) c.args.now) c.self.view_is in
    let stays = c.calls_keep_clusters.ensures v (subst IsCluster c.self.view_is k.cluster) in
    ap Some (c.remove.ensures.thread e.0 e.1) ∙ sym (ap facts_of found)

pub returns-in-Some-clause-view : goal.returns-in-Some-clause-view
returns-in-Some-clause-view c =
    let i = c.self.inside in
    let v = c.args.self.now in
    let k = c.self.invariant in
    let n = c.remove.new.self in
    let q = i.queue in
    let within : c.in-Some.place < length q.rows.rows = omega (arith, c.in-Some.ensures.there c.in-Some.place refl, ap length c.as_slice.ensures) in
    let e = there_is q.rows.rows c.in-Some.place within in
    let found : standing v c.args.t.slot c.args.t.arrival ≡ Some e.0 =
    sym (ap (λ (w : ClusterView). standing w c.args.t.slot c.args.t.arrival) c.self.view_is)
    ∙ (ap (standing_in c.args.t.slot c.args.t.arrival) (sym c.as_slice.ensures)
    ∙ (sym c.in-Some.ensures.place ∙ (ap (λ (rs : List Slotted). entry_at rs (Some c.in-Some.place)) c.as_slice.ensures ∙ e.1))) in
    let taken : TakesOut q n e.0 (removed e.0 (max c.args.now q.last) (flat_of q)) =
    subst (λ (m : ℕ). TakesOut q n e.0 (removed e.0 m (flat_of q))) c.max-now.ensures (c.remove.ensures.taken e.0 e.1) in
    let view : view_of (whole i.setup i.number n) ≡ after_pull v (Some e.0) c.args.now =
    left_view i.setup i.number q n (Some e.0) (removed e.0 (max c.args.now q.last) (flat_of q)) taken
    ∙ ap (λ (w : ClusterView). after_pull w (Some e.0) c.args.now) c.self.view_is in
    let stays = c.calls_keep_clusters.ensures v (subst IsCluster c.self.view_is k.cluster) in
    view ∙ ap (λ (o : Option Queued). after_pull v o c.args.now) (sym found)

pub returns-in-Some-clause-rises : goal.returns-in-Some-clause-rises
returns-in-Some-clause-rises c =
    let i = c.self.inside in
    let v = c.args.self.now in
    let k = c.self.invariant in
    let n = c.remove.new.self in
    let q = i.queue in
    let within : c.in-Some.place < length q.rows.rows = omega (arith, c.in-Some.ensures.there c.in-Some.place refl, ap length c.as_slice.ensures) in
    let e = there_is q.rows.rows c.in-Some.place within in
    let found : standing v c.args.t.slot c.args.t.arrival ≡ Some e.0 =
    sym (ap (λ (w : ClusterView). standing w c.args.t.slot c.args.t.arrival) c.self.view_is)
    ∙ (ap (standing_in c.args.t.slot c.args.t.arrival) (sym c.as_slice.ensures)
    ∙ (sym c.in-Some.ensures.place ∙ (ap (λ (rs : List Slotted). entry_at rs (Some c.in-Some.place)) c.as_slice.ensures ∙ e.1))) in
    let taken : TakesOut q n e.0 (removed e.0 (max c.args.now q.last) (flat_of q)) =
    subst (λ (m : ℕ). TakesOut q n e.0 (removed e.0 m (flat_of q))) c.max-now.ensures (c.remove.ensures.taken e.0 e.1) in
    let view : view_of (whole i.setup i.number n) ≡ after_pull v (Some e.0) c.args.now =
    left_view i.setup i.number q n (Some e.0) (removed e.0 (max c.args.now q.last) (flat_of q)) taken
    ∙ ap (λ (w : ClusterView). after_pull w (Some e.0) c.args.now) c.self.view_is in
    let stays = c.calls_keep_clusters.ensures v (subst IsCluster c.self.view_is k.cluster) in
    subst (λ (w : ClusterView). RisesBy 0 1 v.flat w.flat) (sym view) ((c.steps_rise_by_few.ensures v.setup v.flat).pulling e.0 (moment_at v c.args.now))

pub returns-in-Some-clause-room : goal.returns-in-Some-clause-room
returns-in-Some-clause-room c =
    let i = c.self.inside in
    let v = c.args.self.now in
    let k = c.self.invariant in
    let n = c.remove.new.self in
    let q = i.queue in
    let within : c.in-Some.place < length q.rows.rows = omega (arith, c.in-Some.ensures.there c.in-Some.place refl, ap length c.as_slice.ensures) in
    let e = there_is q.rows.rows c.in-Some.place within in
    let found : standing v c.args.t.slot c.args.t.arrival ≡ Some e.0 =
    sym (ap (λ (w : ClusterView). standing w c.args.t.slot c.args.t.arrival) c.self.view_is)
    ∙ (ap (standing_in c.args.t.slot c.args.t.arrival) (sym c.as_slice.ensures)
    ∙ (sym c.in-Some.ensures.place ∙ (ap (λ (rs : List Slotted). entry_at rs (Some c.in-Some.place)) c.as_slice.ensures ∙ e.1))) in
    let taken : TakesOut q n e.0 (removed e.0 (max c.args.now q.last) (flat_of q)) =
    subst (λ (m : ℕ). TakesOut q n e.0 (removed e.0 m (flat_of q))) c.max-now.ensures (c.remove.ensures.taken e.0 e.1) in
    let view : view_of (whole i.setup i.number n) ≡ after_pull v (Some e.0) c.args.now =
    left_view i.setup i.number q n (Some e.0) (removed e.0 (max c.args.now q.last) (flat_of q)) taken
    ∙ ap (λ (w : ClusterView). after_pull w (Some e.0) c.args.now) c.self.view_is in
    let stays = c.calls_keep_clusters.ensures v (subst IsCluster c.self.view_is k.cluster) in
    subst (SameRoom v) (sym view) (stays.pulling_room e.0 c.args.now (subst (λ (w : ClusterView). Contains w.flat.entries e.0) c.self.view_is (stands_at q c.in-Some.place e.0 e.1)))
