-- A priority of 127 at the most and a score of 16 at the most fit together.
use Rattle.std.proofs.Common.{◌≡◌, ℕ, ap, arith, subst, sym}
use Rattle.thread_queue.specs.Queue.{HasSlot, IsFirst, Queue, StandsIn}
use Rattle.clutch_bucket.specs.Lane.{no_queue, queue_at}
use Rattle.clutch_bucket.proofs.Reading.{from_some, read_at}
use Rattle.clutch_bucket.proofs.lane.LaneUnits.unit_top.Goals as goal

pub overflow_add-result : goal.overflow_add-result
overflow_add-result c =
    let arena = c.args.arena.now in
    let queue : Queue = c.index.result.now in
    let unit = c.requires.units.each c.args.group c.requires.group in
    let same : queue_at c.args.self.now c.args.group ≡ queue = read_at c.self.inside.queues.items c.args.self.now.queues c.args.group queue no_queue c.index.ensures (ap (λ l. l.queues) c.self.view_is) c.requires.group in
    let first = from_some (λ (slot : ℕ). IsFirst arena queue slot) c.first.result c.in_ok-slot.slot c.in_ok-slot.was (c.first.ensures.first arena (subst (StandsIn arena) same unit.stands)) in
    let has = subst (λ (q : Queue). HasSlot arena q c.in_ok-slot.slot) (sym same) first.held in
    let small = (unit.each c.in_ok-slot.slot c.get.result.now has c.get.ensures).small in
    let bound = c.score.ensures.bound in
    omega (arith, small, bound)
