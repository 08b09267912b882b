-- The new slot is no other group's, and the heap has not it.
use Rattle.std.proofs.Common.{ap, length, ◌∙◌}
use Rattle.clutch_bucket.specs.declared.ranks.UnitKey.{UnitKey}
use Rattle.clutch_bucket.proofs.Growing.{extended}
use Rattle.clutch_bucket.proofs.ranks.Ranks.add_group.Goals as goal

pub invariant_of-self-2 : goal.invariant_of-self-2
invariant_of-self-2 c =
    let key : UnitKey = record { pri = 0; turn = 0 } in
    rw (c.push_reserved-2.ensures.items, c.push_reserved.ensures.items, c.reserve.ensures.items, c.reserve-2.ensures.items)
    (extended c.heap_laws.ensures.reserved c.heap_laws.ensures.inserted c.self.inside.keys.items c.self.inside.slots.items
    c.self.inside.arena c.reserve-3.new.self c.insert_reserved-slot.new.self c.self.inside.heap c.insert_reserved-slot.result c.args.group key
    (ap length c.self.view_is ∙ c.requires) c.self.invariant c.in_ok-reserve-3.ensures.map c.insert_reserved-slot.ensures.inserts)
