-- A bitmap of the ten lanes as a list of flags.
use Rattle.std.specs.Int.{bit_at}
use Rattle.std.specs.Prelude.{Bool, List, [], map, ℕ, ◌==◌, ◌∷◌}

-- whether a bit of a number is set
abbrev pub flag_at : ℕ → ℕ → Bool
flag_at bits index = bit_at bits index == 1

-- the indices of the ten lanes
abbrev pub lane_indices : List ℕ
lane_indices = 0 ∷ 1 ∷ 2 ∷ 3 ∷ 4 ∷ 5 ∷ 6 ∷ 7 ∷ 8 ∷ 9 ∷ []

-- the ten lowest bits, the lowest first
abbrev pub flags_of : ℕ → List Bool
flags_of bits = map (flag_at bits) lane_indices
