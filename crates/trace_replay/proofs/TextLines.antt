-- The lines of bytes whose first newline is known.
use Rattle.std.proofs.Common.{◌≡◌, ◌≢◌, ℕ, zero, suc, ◌<◌, List, [], ◌∷◌, ◌++◌, length, take, arith, ne_eqb, refl}
use Rattle.flat_policy.specs.Texts.Streams.{TextLines, before_lines, text_lines}
use Rattle.ports.specs.Lines.{HasNoNewline}

pub plain_head : (b : ℕ) (bs : List ℕ) → HasNoNewline (b ∷ bs) → b ≢ 10
plain_head b bs plain = plain 0 0 (omega arith)

pub plain_tail : (b : ℕ) (bs : List ℕ) → HasNoNewline (b ∷ bs) → HasNoNewline bs
plain_tail b bs plain k d below = plain (suc k) d (omega arith)

-- a byte that is no newline stands before the lines of what follows
byte_before : (b : ℕ) (bs : List ℕ) → b ≢ 10 → text_lines (b ∷ bs) ≡ before_lines b (text_lines bs).whole (text_lines bs).rest
byte_before b bs other = rw (ne_eqb b 10 other) refl

-- a line before some lines
abbrev pub with_line : List ℕ → TextLines → TextLines
with_line line t = record { whole = line ∷ t.whole; rest = t.rest }

-- a line and its newline
pub line_first : (line tail : List ℕ) → HasNoNewline line → text_lines (line ++ 10 ∷ tail) ≡ with_line line (text_lines tail)
line_first [] tail plain = refl
line_first (b ∷ line) tail plain =
    rw (byte_before b (line ++ 10 ∷ tail) (plain_head b line plain), line_first line tail (plain_tail b line plain)) refl

-- bytes without a newline
pub no_line : (bytes : List ℕ) → HasNoNewline bytes → text_lines bytes ≡ record { whole = []; rest = bytes }
no_line [] plain = refl
no_line (b ∷ bytes) plain = rw (byte_before b bytes (plain_head b bytes plain), no_line bytes (plain_tail b bytes plain)) refl

-- the first line of some bytes, or all of them, has more than n bytes
pub data LongFirst (n : ℕ) : TextLines → Type 0 where
  long_rest : (rest : List ℕ) → n < length rest → LongFirst n (record { whole = []; rest = rest })
  long_line : (line : List ℕ) (whole : List (List ℕ)) (rest : List ℕ) → n < length line → LongFirst n (record { whole = line ∷ whole; rest = rest })

longer_first : (n b : ℕ) (t : TextLines) → LongFirst n t → LongFirst (suc n) (before_lines b t.whole t.rest)
longer_first n b _ (long_rest rest long) = long_rest (b ∷ rest) (omega (arith, long))
longer_first n b _ (long_line line whole rest long) = long_line (b ∷ line) whole rest (omega (arith, long))

any_first : (b : ℕ) (whole : List (List ℕ)) (rest : List ℕ) → LongFirst zero (before_lines b whole rest)
any_first b [] rest = long_rest (b ∷ rest) (omega arith)
any_first b (line ∷ whole) rest = long_line (b ∷ line) whole rest (omega arith)

-- bytes that begin with more than n bytes without a newline
pub long_first : (n : ℕ) (bytes : List ℕ) → HasNoNewline (take (suc n) bytes) → n < length bytes → LongFirst n (text_lines bytes)
long_first n [] plain long = absurd (omega (arith, long))
long_first zero (b ∷ bytes) plain long = rw (byte_before b bytes (plain_head b (take 0 bytes) plain)) (any_first b (text_lines bytes).whole (text_lines bytes).rest)
long_first (suc n) (b ∷ bytes) plain long =
    rw (byte_before b bytes (plain_head b (take (suc n) bytes) plain))
    (longer_first n b (text_lines bytes) (long_first n bytes (plain_tail b (take (suc n) bytes) plain) (omega (arith, long))))
