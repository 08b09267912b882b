-- The new slot is in no heap, and comes into this one.
use Rattle.std.proofs.Common.{ap, is_some, lit<, subst}
use Rattle.std.specs.Prelude.{OnOk}
use Rattle.link_arena.specs.Arena.{SameMap}
use Rattle.thread_queue.proofs.tests.offers.Offers.enter.Goals as goal

pub push_uncounted-requires : goal.push_uncounted-requires
push_uncounted-requires g c =
    let same = subst (λ r. OnOk r (SameMap c.self.inside.arena c.reserve.new.self)) c.expect.ensures c.reserve.ensures.map in
    let kept = c.stays_where_reserved.ensures c.self.inside.arena c.reserve.new.self same c.self.inside.heap c.self.invariant in
    let inserts = c.insert_reserved-slot.ensures.inserts in
    let can = c.stays_where_inserted.ensures _ _ _ _ inserts c.self.inside.heap kept.stands in
    (lit< tt, (can.stays.stands, (ap is_some inserts.stored, can.lacks)))
