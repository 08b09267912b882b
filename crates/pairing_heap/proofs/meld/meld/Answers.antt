-- The root whose key is not preceded adopts the other.
use Rattle.std.proofs.Common.{sym, ◌∙◌}
use Rattle.pairing_heap.proofs.Melding.{CanAdopt-roots, Melds-first, Melds-second, Unlike-swapped}
use Rattle.pairing_heap.proofs.meld.meld.Goals as goal

pub adopt-requires : goal.adopt-requires
adopt-requires g c =
    let m = c.requires in
    CanAdopt-roots g.row.K g.V.Keyed.key_of g.V.Key.HeapKey.precedes c.args.arena.now c.args.b c.args.a m.b_key m.a_key m.b_children m.a_children m.set (Unlike-swapped c.args.a m.a_key m.a_children c.args.b m.b_key m.b_children m.once) m.b_root m.a_root

pub adopt-requires-else-is_before : goal.adopt-requires-else-is_before
adopt-requires-else-is_before g c =
    let m = c.requires in
    CanAdopt-roots g.row.K g.V.Keyed.key_of g.V.Key.HeapKey.precedes c.args.arena.now c.args.a c.args.b m.a_key m.b_key m.a_children m.b_children m.set m.once m.a_root m.b_root

pub returns-then-is_before-clause-melds : goal.returns-then-is_before-clause-melds
returns-then-is_before-clause-melds g c both =
    Melds-second g.row.K g.V.Keyed.key_of g.V.Key.HeapKey.precedes g.V.Key.HeapKey.order _ _ _ _ both c.adopt.ensures.links c.adopt.ensures.rest
    (sym (c.is_before.ensures.answer both.b_key both.a_key both.b_root.keyed both.a_root.keyed) ∙ c.if-is_before.true)

pub returns-else-is_before-clause-melds : goal.returns-else-is_before-clause-melds
returns-else-is_before-clause-melds g c both =
    Melds-first g.row.K g.V.Keyed.key_of g.V.Key.HeapKey.precedes _ _ _ _ both c.adopt-else-is_before.ensures.links c.adopt-else-is_before.ensures.rest
    (sym (c.is_before.ensures.answer both.b_key both.a_key both.b_root.keyed both.a_root.keyed) ∙ c.if-is_before.false)
