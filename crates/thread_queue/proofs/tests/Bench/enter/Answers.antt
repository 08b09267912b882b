-- The new slot is in no queue, and comes into this one.
use Rattle.std.proofs.Common.{ap, is_some, subst}
use Rattle.std.specs.Prelude.{OnOk}
use Rattle.link_arena.specs.Arena.{SameMap}
use Rattle.thread_queue.proofs.tests.Bench.enter.Goals as goal

pub push_uncounted-requires-clause-stands : goal.push_uncounted-requires-clause-stands
push_uncounted-requires-clause-stands g c =
    let same = subst (λ r. OnOk r (SameMap c.self.inside.arena c.reserve.new.self)) c.expect.ensures c.reserve.ensures.map in
    let kept = c.stays_where_reserved.ensures c.self.inside.arena c.reserve.new.self same c.self.inside.queue c.self.invariant in
    (c.stays_where_inserted.ensures _ _ _ _ c.insert_reserved-slot.ensures.inserts c.self.inside.queue kept.stands).stays.stands

pub push_uncounted-requires-clause-lacks : goal.push_uncounted-requires-clause-lacks
push_uncounted-requires-clause-lacks g c =
    let same = subst (λ r. OnOk r (SameMap c.self.inside.arena c.reserve.new.self)) c.expect.ensures c.reserve.ensures.map in
    let kept = c.stays_where_reserved.ensures c.self.inside.arena c.reserve.new.self same c.self.inside.queue c.self.invariant in
    (c.stays_where_inserted.ensures _ _ _ _ c.insert_reserved-slot.ensures.inserts c.self.inside.queue kept.stands).lacks
