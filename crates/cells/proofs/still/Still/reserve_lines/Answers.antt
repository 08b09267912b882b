use Rattle.std.proofs.Common.{refl}
use Rattle.cells.proofs.Giving.{still_but_free}
use Rattle.cells.proofs.still.Still.reserve_lines.Goals as goal

pub returns-then-reserve_lines-clause-but : goal.returns-then-reserve_lines-clause-but
returns-then-reserve_lines-clause-but g c = still_but_free _ _ _ c.self.view_is (record {
  clusters = c.reserve_lines.ensures.but;
  free = c.reserve_lines-then-reserve_lines.new.self.journal.free;
  yard = c.reserve_lines-then-reserve_lines.ensures.same;
  stock = refl;
  turns_are = refl;
})

pub returns-else-reserve_lines-clause-but : goal.returns-else-reserve_lines-clause-but
returns-else-reserve_lines-clause-but g c = still_but_free _ _ _ c.self.view_is (record {
  clusters = c.reserve_lines.ensures.but;
  free = c.self.inside.yard.journal.free;
  yard = refl;
  stock = refl;
  turns_are = refl;
})
