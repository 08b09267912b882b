-- The new slot is in no heap, and comes into that of the cluster that its thread prefers.
use Rattle.std.proofs.Common.{subst}
use Rattle.std.specs.Prelude.{OnOk}
use Rattle.link_arena.specs.Arena.{SameMap}
use Rattle.stealing.proofs.tests.enter.Goals as goal

pub push-requires-clause-stands : goal.push-requires-clause-stands
push-requires-clause-stands g c =
    let same = subst (λ r. OnOk r (SameMap c.args.arena.now c.reserve.new.self)) c.expect.ensures c.reserve.ensures.map in
    let kept = c.stays_where_reserved.ensures c.args.arena.now c.reserve.new.self same c.args.foreign.now c.requires.stands in
    (c.stays_where_inserted.ensures c.reserve.new.self c.insert_reserved-slot.new.self c.insert_reserved-slot.result c.item_of.result c.insert_reserved-slot.ensures.inserts c.args.foreign.now kept.stands).stays.stands

pub returns-clause-held : goal.returns-clause-held
returns-clause-held g c =
    (c.push.ensures.pushes.item.thread.prefer, c.pushed_is_held.ensures c.insert_reserved-slot.new.self c.push.new.arena c.args.foreign.now c.push.new.self c.insert_reserved-slot.result c.push.ensures.pushes)
