use Rattle.std.proofs.Common.{sym, ◌∙◌}
use Rattle.cluster_queue.specs.Queues.{flat_of}
use Rattle.cluster_queue.proofs.Windowed.{can_read}
use Rattle.cluster_queue.proofs.queue.Queue.first_masked.Goals as goal

pub returns-in-Some-clause-first : goal.returns-in-Some-clause-first
returns-in-Some-clause-first c =
    let q = c.args.self.now in
    c.first_of.ensures.first (can_read q c.requires) ∙ sym ((c.masked_offers_by_lane.ensures q.groups c.args.mask (flat_of q) c.requires.formed).first c.in-Some.bucket c.in-Some.ensures)

pub returns-in-None-clause-first : goal.returns-in-None-clause-first
returns-in-None-clause-first c =
    let q = c.args.self.now in
    sym ((c.masked_offers_by_lane.ensures q.groups c.args.mask (flat_of q) c.requires.formed).none c.in-None.ensures)
