-- Where the spaces of a text stand.
use Rattle.std.specs.Prelude.{Bool, List, [], get_or, length, not, true, ℕ, ◌&&◌, ◌==◌, ◌<◌, ◌≡◌, ◌≢◌, ◌∷◌}

-- the first space of a text stands at this index
pub record IsFirstSpace (text : List ℕ) (i : ℕ) : Type 0 where
  pub within : i < length text
  pub here : get_or text i 0 ≡ 32
  pub before : (k : ℕ) → k < i → get_or text k 0 ≢ 32

-- a text without a space
abbrev pub HasNoSpace : List ℕ → Type 0
HasNoSpace text = (k : ℕ) → k < length text → get_or text k 0 ≢ 32

-- whether a text is without a space
abbrev pub is_plain : List ℕ → Bool
is_plain [] = true
is_plain (b ∷ bs) = not (b == 32) && is_plain bs
