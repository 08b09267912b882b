use Rattle.std.proofs.Common.{refl}
use Rattle.cells.proofs.Giving.{still_but_spare}
use Rattle.cells.proofs.still.Still.reserve_slots.Goals as goal

pub returns-then-reserve_slots-clause-but : goal.returns-then-reserve_slots-clause-but
returns-then-reserve_slots-clause-but g c = still_but_spare _ _ _ c.self.view_is (record {
  clusters = c.reserve_slots.ensures.but;
  room = c.reserve_slot.new.self.room;
  yard = c.reserve_slot.ensures.same;
  stock = refl;
  turns_are = refl;
})

pub returns-else-reserve_slots-clause-but : goal.returns-else-reserve_slots-clause-but
returns-else-reserve_slots-clause-but g c = still_but_spare _ _ _ c.self.view_is (record {
  clusters = c.reserve_slots.ensures.but;
  room = c.self.inside.yard.room;
  yard = refl;
  stock = refl;
  turns_are = refl;
})
