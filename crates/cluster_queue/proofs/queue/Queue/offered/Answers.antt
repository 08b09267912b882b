use Rattle.std.proofs.Common.{ap, sym, ◌∙◌}
use Rattle.flat_policy.specs.Policy.Offer.{offered}
use Rattle.cluster_queue.specs.Queues.{flat_of}
use Rattle.cluster_queue.proofs.Offering.{foreign_offered, masked_offered}
use Rattle.cluster_queue.proofs.Windowed.{can_read}
use Rattle.cluster_queue.proofs.queue.Queue.offered.Goals as goal
use Rattle.cluster_queue.proofs.queue.Queue.offered.Goals.{then-rebalance+else-is_some, else-rebalance}

pub returns-then-is_some-clause-offered : goal.returns-then-is_some-clause-offered
returns-then-is_some-clause-offered c =
    let q = c.args.self.now in
    let s = flat_of q in
    foreign_offered c.args.to c.args.mask s q.arena c.first_foreign-foreign.result c.first_foreign-foreign.ensures.live (sym c.is_some.ensures ∙ c.if-is_some.true)
    (c.first_foreign-foreign.ensures.first (can_read q c.requires.queue))
    ∙ ap (λ b. offered c.args.to b c.args.mask s) (sym c.if-rebalance.true)

pub returns-clause-offered : goal.returns-clause-offered
returns-clause-offered c =
    let q = c.args.self.now in
    let s = flat_of q in
    elim c.if-rebalance.branch [
      | then-rebalance+else-is_some w ↦
          c.first_masked.ensures.first
          ∙ (masked_offered c.args.to c.args.mask s q.arena w.first_foreign-foreign.result (sym w.is_some.ensures ∙ w.if-is_some.false) (w.first_foreign-foreign.ensures.first (can_read q c.requires.queue))
          ∙ ap (λ b. offered c.args.to b c.args.mask s) (sym w.if-rebalance.true))
      | else-rebalance w ↦ c.first_masked.ensures.first ∙ ap (λ b. offered c.args.to b c.args.mask s) (sym w.if-rebalance.false)
    ]
