-- In which order the units of a lane go.
use Rattle.std.specs.Prelude.{Bool, List, None, Option, Some, false, length, nat_lt, slice_index_or, ℕ, ◌&&◌, ◌<◌, ◌==◌, ◌||◌, ◌≡◌}
use Rattle.clutch_bucket.specs.declared.ranks.UnitKey.{UnitKey}

-- the greater priority goes first, and at one priority the lower turn
abbrev pub unit_key_precedes : UnitKey → UnitKey → Bool
unit_key_precedes a b = nat_lt b.pri a.pri || ((a.pri == b.pri) && nat_lt a.turn b.turn)

-- the group has a key, which the key of no other group precedes
pub record IsFirstUnit (ranks : List (Option UnitKey)) (group : ℕ) : Type 0 where
  pub within : group < length ranks
  pub key : UnitKey
  pub stands : slice_index_or ranks group None ≡ Some key
  pub unpreceded : (other : ℕ) (rival : UnitKey) → slice_index_or ranks other None ≡ Some rival → unit_key_precedes rival key ≡ false
