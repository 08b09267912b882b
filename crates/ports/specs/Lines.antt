-- When a line is whole, too long, past the bytes that count, or not at its end.
use Rattle.std.specs.Prelude.{◌≡◌, ◌≢◌, ℕ, ◌+◌, ◌<◌, ◌≤◌, List, length, take, All, slice_index, Option, None, Some}

-- no byte ends a line
abbrev pub HasNoNewline : List ℕ → Type 0
HasNoNewline bytes = All (λ b. b ≢ 10) bytes

-- the first newline stands behind n bytes, among the first `most`
pub record EndsAt (most n : ℕ) (bytes : List ℕ) : Type 0 where
  pub early : n < most
  pub within : n < length bytes
  pub plain : HasNoNewline (take n bytes)
  pub newline : slice_index bytes n ≡ 10

-- where the first newline stands, if there is one
abbrev pub IsFirstNewline : List ℕ → Option ℕ → Type 0
IsFirstNewline bytes None = HasNoNewline bytes
IsFirstNewline bytes (Some n) = EndsAt (length bytes) n bytes

-- more than `limit` bytes of the line stand there, all among those that count
pub record IsLong (limit counted : ℕ) (bytes : List ℕ) : Type 0 where
  pub reached : limit < length bytes
  pub counts : limit < counted
  pub plain : HasNoNewline (take (limit + 1) bytes)

-- a byte past those that count stands there, and the line is neither whole nor too long before it
pub record IsOver (limit counted : ℕ) (bytes : List ℕ) : Type 0 where
  pub reached : counted < length bytes
  pub short : counted ≤ limit
  pub plain : HasNoNewline (take counted bytes)

-- the line is neither whole, nor too long, nor past the bytes that count
pub record IsOpen (limit counted : ℕ) (bytes : List ℕ) : Type 0 where
  pub short : length bytes ≤ limit
  pub counts : length bytes ≤ counted
  pub plain : HasNoNewline bytes
