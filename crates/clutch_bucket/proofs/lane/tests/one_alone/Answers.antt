-- The lane is new, and the slot comes into the arena just before it enters.
use Rattle.std.proofs.Common.{◌≡◌, ◌<◌, ◌≤◌, ap, ◌∙◌, arith, is_some, refl, subst, sym}
use Rattle.std.specs.Prelude.{pos}
use Rattle.sched_base.specs.declared.Facts.{Facts}
use Rattle.sched_base.specs.declared.Bucket.TheVariants.{Df}
use Rattle.link_arena.specs.Arena.{Arena}
use Rattle.thread_queue.specs.declared.item.Item.{Item}
use Rattle.clutch_bucket.specs.Lane.{LacksLaneSlot, Lane, LaneStands, MayEnter}
use Rattle.clutch_bucket.proofs.New.{empty_lacks, empty_lane}
use Rattle.clutch_bucket.proofs.Reading.{from_ok}
use Rattle.clutch_bucket.proofs.Units.{one_item}
use Rattle.clutch_bucket.proofs.lane.tests.one_alone.Goals as goal

pub enter-requires-clause-stands : goal.enter-requires-clause-stands
enter-requires-clause-stands g c =
    from_ok (λ (made : Lane). (arena : Arena Item) → LaneStands arena made) c.new.result c.expect-lane.result c.expect-lane.ensures c.new.ensures.stands c.insert_reserved-slot.new.self

pub enter-requires-clause-live : goal.enter-requires-clause-live
enter-requires-clause-live g c = ap is_some c.insert_reserved-slot.ensures.inserts.stored

pub enter-requires-clause-lacks : goal.enter-requires-clause-lacks
enter-requires-clause-lacks g c =
    let made = from_ok (λ (made : Lane). made ≡ empty_lane Df 2) c.new.result c.expect-lane.result c.expect-lane.ensures c.new.ensures.made in
    let arena = c.insert_reserved-slot.new.self in
    let slot = c.insert_reserved-slot.result in
    subst (λ (l : Lane). LacksLaneSlot arena l slot) (sym made) (empty_lacks c.queue_laws.ensures.empty c.queue_laws.ensures.first arena Df 2 slot)

pub enter-requires-clause-may : goal.enter-requires-clause-may
enter-requires-clause-may g c = λ item stored.
    let made = from_ok (λ (made : Lane). made ≡ empty_lane Df 2) c.new.result c.expect-lane.result c.expect-lane.ensures c.new.ensures.made in
    let entered : Item = record { thread = c.new-3.result; pri = 31; number = pos 0; arrival = 0 } in
    let group : 1 < 2 = omega arith in
    let small : 31 ≤ 127 = omega arith in
    subst (MayEnter c.expect-lane.result) (one_item c.insert_reserved-slot.new.self c.insert_reserved-slot.result entered item c.insert_reserved-slot.ensures.inserts.stored stored)
    (subst (λ (l : Lane). MayEnter l entered) (sym made)
    (subst (λ (t : Facts). MayEnter (empty_lane Df 2) (record { thread = t; pri = 31; number = pos 0; arrival = 0 })) (sym c.new-3.ensures)
    (record { within = refl; group = group; small = small; ran = refl; blocked = refl })))

pub enter-requires-clause-room : goal.enter-requires-clause-room
enter-requires-clause-room g c =
    let made = from_ok (λ (made : Lane). made ≡ empty_lane Df 2) c.new.result c.expect-lane.result c.expect-lane.ensures c.new.ensures.made in
    let len = ap (λ (l : Lane). l.len) made in
    omega (arith, len)

pub take_out-requires : goal.take_out-requires
take_out-requires g c =
    let slot = c.insert_reserved-slot.result in
    ap is_some (c.remove.ensures.arena.values slot ∙ (c.enter.ensures.arena.values slot ∙ c.insert_reserved-slot.ensures.inserts.stored))
