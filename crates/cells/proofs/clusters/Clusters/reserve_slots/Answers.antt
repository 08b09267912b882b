use Rattle.std.proofs.Common.{map, is_some, ap, ◌∙◌}
use Rattle.cells.specs.Making.{with_spare}
use Rattle.cells.proofs.Giving.{but_filled, eight_filled}
use Rattle.cells.proofs.clusters.Clusters.reserve_slots.Goals as goal

pub returns-clause-filled : goal.returns-clause-filled
returns-clause-filled g c =
    eight_filled _ _ _ _ _ _ _ _ _ _ _ _ _ _ _ _
    (but_filled with_spare _ _ c.reserve_slot_in-fine.ensures.but)
    (but_filled with_spare _ _ c.reserve_slot_in-fine-2.ensures.but)
    (but_filled with_spare _ _ c.reserve_slot_in-fine-3.ensures.but)
    (but_filled with_spare _ _ c.reserve_slot_in-fine-4.ensures.but)
    (but_filled with_spare _ _ c.reserve_slot_in-fine-5.ensures.but)
    (but_filled with_spare _ _ c.reserve_slot_in-fine-6.ensures.but)
    (but_filled with_spare _ _ c.reserve_slot_in-fine-7.ensures.but)
    (but_filled with_spare _ _ c.reserve_slot_in.ensures.but)
    ∙ ap (map is_some) c.self.view_is
