use Rattle.std.proofs.Common.{sym, subst, arith}
use Rattle.windows.specs.WindowStates.{WindowState}
use Rattle.cluster_queue.specs.Queues.{IsChosen, flat_of}
use Rattle.cluster_queue.proofs.Picking.{chosen_lane, chosen_ui, some_filled, some_member}
use Rattle.cluster_queue.proofs.queue.Queue.choose.Goals as goal

pub returns-in-Some : goal.returns-in-Some
returns-in-Some c =
    let q = c.args.self.now in
    chosen_ui c.chooses_a_filled_lane.ensures q c.args.now c.in-Some.bound c.requires.queue (sym (c.in-Some.ensures.queue (flat_of q) c.tops-tops.ensures))

pub choose-requires-clause-filled : goal.choose-requires-clause-filled
choose-requires-clause-filled c =
    let q = c.args.self.now in
    some_filled c.chooses_a_filled_lane.ensures c.choices_agree.ensures q c.requires.queue (sym (c.in-None.ensures.queue (flat_of q) c.tops-tops.ensures))
    (some_member (flat_of q).entries (omega (arith, c.requires.some, c.requires.queue.nested.stored.len)))

pub returns-in-None : goal.returns-in-None
returns-in-None c =
    let q = c.args.self.now in
    subst (λ (w : WindowState). IsChosen q (record q { windows = w }) c.args.now c.choose.result.0) (sym c.choose.ensures.changes)
    (chosen_lane c.chooses_a_filled_lane.ensures c.choices_agree.ensures q c.args.now c.choose.result.0 c.choose.result.1 c.requires.queue (sym (c.in-None.ensures.queue (flat_of q) c.tops-tops.ensures)) c.choose.ensures.chosen)
