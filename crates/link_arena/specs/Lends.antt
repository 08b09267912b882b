-- What an `Arena` ends as, where a `&mut` to one of its values is returned.
use Rattle.std.specs.Prelude.{ℕ}
use Rattle.std.specs.Borrow.{Lends, Fml, RattleType, MutBor}
use Rattle.link_arena.specs.Arena.{Arena, with_value}
use Rattle.link_arena.specs.contracts.arena.Arena.{the_row}

-- once the borrow r ends, the slot has the last value written through r
abbrev pub LendsValue : (V : RattleType) → MutBor (Arena V.Denot) → ℕ → MutBor V.Denot → Fml
LendsValue V a slot r = Lends (the_row V) V a r (with_value a.now slot)
