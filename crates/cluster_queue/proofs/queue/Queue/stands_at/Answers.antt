-- The slot's item, if there is one, tells what stands there.
use Rattle.std.proofs.Common.{sym, ◌∙◌}
use Rattle.cluster_queue.proofs.QueueSlots.{free_from_test, none_stands, standing_held, stands_by_item}
use Rattle.cluster_queue.proofs.queue.Queue.stands_at.Goals as goal

pub returns-then-is_live-clause-there : goal.returns-then-is_live-clause-there
returns-then-is_live-clause-there c =
    let q = c.args.self.now in
    stands_by_item q.arena q.next_arrival c.args.slot c.args.arrival c.get.result.now c.requires.nested.stored.arrivals c.get.ensures

pub returns-then-is_live-clause-holds : goal.returns-then-is_live-clause-holds
returns-then-is_live-clause-holds c = λ e stands. standing_held c.args.self.now c.args.slot c.args.arrival e c.requires.nested.stored.arrivals stands

pub returns-else-is_live-clause-there : goal.returns-else-is_live-clause-there
returns-else-is_live-clause-there c =
    let q = c.args.self.now in
    c.if-is_live.false ∙ sym (none_stands q.arena q.next_arrival c.args.slot c.args.arrival c.requires.nested.stored.arrivals (free_from_test q.arena c.args.slot c.is_live.result c.is_live.ensures c.if-is_live.false))

pub returns-else-is_live-clause-holds : goal.returns-else-is_live-clause-holds
returns-else-is_live-clause-holds c = λ e stands. standing_held c.args.self.now c.args.slot c.args.arrival e c.requires.nested.stored.arrivals stands
