-- A feed of lines as its callers see it.
use Rattle.std.specs.Prelude.{ℕ, List, Bool}

-- the line that was given last, the bytes that were taken and not given, how many were given with their newlines, and
-- whether there is no line more
pub record Feed : Type 0 where
  pub line : List ℕ
  pub held : List ℕ
  pub passed : ℕ
  pub done : Bool
