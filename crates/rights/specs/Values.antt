-- A book, a share and a token as contracts see them.
use Rattle.std.specs.Prelude.{ℕ}
use Rattle.atomic_table.specs.Seated.{TableId}
use Rattle.rights.specs.declared.view.View.{View}

-- which desk it is: no two desks have the same
abbrev pub DeskId : Type 0
DeskId = TableId

-- the rights of a desk: how many are minted, and how many of them are parked with the book
pub record Account : Type 0 where
  pub desk : DeskId
  pub minted : ℕ
  pub parked : ℕ

-- some rights of a desk
pub record Holding : Type 0 where
  pub desk : DeskId
  pub amount : ℕ

-- what a token knows of a desk
pub record Insight : Type 0 where
  pub desk : DeskId
  pub view : View
