-- What the sources and sinks for tests do at each call.
use Rattle.std.specs.Prelude.{ℕ, ◌==◌, ◌||◌, Bool, List, length}
use Rattle.std.specs.List.{list_any}

-- a source for tests: what it has left, the most that a call gives, which calls fail, how many were made and how many of
-- those failed, and whether the last one did
pub record Supply : Type 0 where
  pub left : List ℕ
  pub piece : ℕ
  pub fails : List ℕ
  pub calls : ℕ
  pub faults : ℕ
  pub failing : Bool

-- a sink for tests: what it has taken, how many bytes it has room for, the most that a call takes, and its calls and faults
-- as those of a source
pub record Store : Type 0 where
  pub bytes : List ℕ
  pub room : ℕ
  pub piece : ℕ
  pub fails : List ℕ
  pub calls : ℕ
  pub faults : ℕ
  pub failing : Bool

-- whether the call with this number is one of those that fail
abbrev pub is_listed : List ℕ → ℕ → Bool
is_listed fails call = list_any (λ k. k == call) fails

-- whether the sink refuses the put to come: it is one of those that fail, or the room is full
abbrev pub is_refused : Store → Bool
is_refused s = is_listed s.fails s.calls || (length s.bytes == s.room)
