use Rattle.std.proofs.Common.{Option, Some, ap, sym, ◌∙◌, subst}
use Rattle.flat_policy.specs.Policy.ClusterSteps.{facts_of, flat_after_offer}
use Rattle.flat_policy.specs.Policy.Queue.{Queued}
use Rattle.cluster_queue.specs.Queues.{Leaves, flat_of}
use Rattle.cluster_queue.proofs.Held.{held_in, holds}
use Rattle.cluster_queue.proofs.queue.Queue.offer.Goals as goal

pub returns-in-Some-clause-offered : goal.returns-in-Some-clause-offered
returns-in-Some-clause-offered c =
    let q = c.args.self.now in
    let e = held_in q c.in-Some.slot c.in-Some.ensures.live in
    ap Some (c.take.ensures.thread e.0 (holds q c.in-Some.slot e.0 e.1)) ∙ ap facts_of (sym e.1 ∙ c.in-Some.ensures.offered)

pub returns-in-Some-clause-left : goal.returns-in-Some-clause-left
returns-in-Some-clause-left c =
    let q = c.args.self.now in
    let e = held_in q c.in-Some.slot c.in-Some.ensures.live in
    subst (λ (o : Option Queued). Leaves q c.take.new.self o (flat_after_offer c.args.now (flat_of q) o)) (sym e.1 ∙ c.in-Some.ensures.offered)
    (c.take.ensures.taken e.0 (holds q c.in-Some.slot e.0 e.1))
