use Rattle.std.proofs.Common.{◌≡◌, Contains, Some, ap, subst, arith}
use Rattle.flat_policy.specs.Policy.Clusters.{ClusterView}
use Rattle.cluster_queue.proofs.Calls.{cluster_of}
use Rattle.cluster_queue.proofs.Pulled.{IsPulled, held_live, is_pulled}
use Rattle.cluster_queue.proofs.Wholes.{queue_of, whole}
use Rattle.cluster_queue.proofs.cluster.ClusterQueueCluster.take_any.Goals as goal

pub take-requires-clause-queue : goal.take-requires-clause-queue
take-requires-clause-queue c = queue_of c.self.inside c.self.invariant

pub take-requires-clause-live : goal.take-requires-clause-live
take-requires-clause-live c =
    let e = c.in_ok-slot.ensures in
    held_live c.self.inside.queue c.in_ok-slot.slot e.0 e.1.0

-- the cluster without the entry
without : (c : goal.After-take) → IsPulled c.args.self.now (whole c.self.inside.setup c.self.inside.number c.take.new.self) c.in_ok-slot.ensures.0 c.args.self.now.flat.last
without c =
    let i = c.self.inside in
    let v = c.args.self.now in
    let keep = c.calls_keep_clusters.ensures in
    let e = c.in_ok-slot.ensures in
    let same : i.queue.last ≡ v.flat.last = ap (λ (w : ClusterView). w.flat.last) c.self.view_is in
    is_pulled keep c.steps_rise_by_few.ensures v i c.self.view_is c.self.invariant c.take.new.self e.0 v.flat.last i.queue.last (omega (arith, same)) (cluster_of keep v i c.self.view_is c.self.invariant).fits.last
    e.1.1 (c.take.ensures.taken e.0 e.1.0)

pub invariant_of-self : goal.invariant_of-self
invariant_of-self c = (without c).keeps

pub returns-clause-taken : goal.returns-clause-taken
returns-clause-taken c =
    let e = c.in_ok-slot.ensures in
    (Some e.0, subst (λ (w : ClusterView). Contains w.flat.entries e.0) c.self.view_is e.1.1, ap Some (c.take.ensures.thread e.0 e.1.0), (without c).view)

pub returns-clause-rises : goal.returns-clause-rises
returns-clause-rises c = (without c).rises

pub returns-clause-room : goal.returns-clause-room
returns-clause-room c = (without c).room
