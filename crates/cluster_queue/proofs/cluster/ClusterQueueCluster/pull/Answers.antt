use Rattle.std.proofs.Common.{◌≡◌, Option, Some, ap, sym, ◌∙◌}
use Rattle.flat_policy.specs.Policy.Clusters.{ClusterView, after_pull, standing, standing_among}
use Rattle.flat_policy.specs.Policy.ClusterSteps.{facts_of}
use Rattle.flat_policy.specs.Policy.Queue.{Queued}
use Rattle.cluster_queue.specs.Queues.{flat_of, slots_of}
use Rattle.cluster_queue.proofs.Held.{some_from}
use Rattle.cluster_queue.proofs.Pulled.{IsPulled, held_live, held_stands, is_pulled}
use Rattle.cluster_queue.proofs.Wholes.{queue_of, whole}
use Rattle.cluster_queue.proofs.cluster.ClusterQueueCluster.pull.Goals as goal

pub take-requires-clause-queue : goal.take-requires-clause-queue
take-requires-clause-queue c = queue_of c.self.inside c.self.invariant

pub take-requires-clause-live : goal.take-requires-clause-live
take-requires-clause-live c =
    let q = c.self.inside.queue in
    let e = some_from (standing_among c.args.t.slot c.args.t.arrival (flat_of q).entries (slots_of q)) (sym c.stands_at.ensures.there ∙ c.if-stands_at.true) in
    held_live q c.args.t.slot e.0 (c.stands_at.ensures.holds e.0 e.1)

-- the entry that stands there, and the cluster without it
entry_there : (c : goal.After-take) → (e : Queued) × (standing_among c.args.t.slot c.args.t.arrival (flat_of c.self.inside.queue).entries (slots_of c.self.inside.queue) ≡ Some e)
entry_there c =
    let q = c.self.inside.queue in
    some_from (standing_among c.args.t.slot c.args.t.arrival (flat_of q).entries (slots_of q)) (sym c.stands_at.ensures.there ∙ c.if-stands_at.true)

stands : (c : goal.After-take) → standing c.args.self.now c.args.t.slot c.args.t.arrival ≡ Some (entry_there c).0
stands c = ap (λ (w : ClusterView). standing w c.args.t.slot c.args.t.arrival) (sym c.self.view_is) ∙ (entry_there c).1

without : (c : goal.After-take) → IsPulled c.args.self.now (whole c.self.inside.setup c.self.inside.number c.take.new.self) (entry_there c).0 c.args.now
without c =
    let i = c.self.inside in
    let e = entry_there c in
    let held = c.stands_at.ensures.holds e.0 e.1 in
    is_pulled c.calls_keep_clusters.ensures c.steps_rise_by_few.ensures c.args.self.now i c.self.view_is c.self.invariant c.take.new.self e.0 c.args.now c.max-now.result c.max-now.ensures c.requires.moment
    (held_stands i.queue c.args.t.slot e.0 c.self.invariant.nested held) (c.take.ensures.taken e.0 held)

pub invariant_of-self : goal.invariant_of-self
invariant_of-self c = (without c).keeps

pub returns-then-stands_at-clause-pulled : goal.returns-then-stands_at-clause-pulled
returns-then-stands_at-clause-pulled c =
    let e = entry_there c in
    ap Some (c.take.ensures.thread e.0 (c.stands_at.ensures.holds e.0 e.1)) ∙ ap facts_of (sym (stands c))

pub returns-then-stands_at-clause-view : goal.returns-then-stands_at-clause-view
returns-then-stands_at-clause-view c = (without c).view ∙ ap (λ (o : Option Queued). after_pull c.args.self.now o c.args.now) (sym (stands c))

pub returns-then-stands_at-clause-rises : goal.returns-then-stands_at-clause-rises
returns-then-stands_at-clause-rises c = (without c).rises

pub returns-then-stands_at-clause-room : goal.returns-then-stands_at-clause-room
returns-then-stands_at-clause-room c = (without c).room
