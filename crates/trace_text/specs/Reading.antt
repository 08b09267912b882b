-- What a reader of the code answers, against the definitions of lines.
use Rattle.std.specs.Prelude.{Bool, Err, List, None, Ok, Option, Result, Some, [], false, if◌then◌else◌, nat_lt, suc, zero, ℕ, ◌≡◌, ◌≢◌, ◌≤◌, ◌-◌, ◌^◌, ◌∷◌}
use Rattle.std.specs.Borrow.{Bor}
use Rattle.std.specs.List.{list_all}
use Rattle.flat_policy.specs.declared.texts.LineFault.{LineFault}
use Rattle.flat_policy.specs.Texts.Pieces.{is_digit, next_piece, number_after, number_within, pieces, same_text}
use Rattle.trace_text.specs.declared.pieces.Pieces.{Pieces}
use Rattle.flat_policy.specs.declared.texts.LineFault.TheVariants as line_faults

-- what was answered, seen by view, is what was read
abbrev pub Gives : {X Y : Type 0} → (X → Y) → Result X LineFault → Result Y LineFault → Type 0
Gives view (Ok x) read = read ≡ Ok (view x)
Gives view (Err e) read = read ≡ Err e

-- the pieces of a text, where one is left
abbrev pub left_of : Option (Bor (List ℕ)) → List (List ℕ)
left_of None = []
left_of (Some text) = pieces text.now

-- the pieces that are left of a line
abbrev pub left : Pieces → List (List ℕ)
left p = left_of p.rest

-- a piece read as itself
abbrev pub as_it_is : List ℕ → Result (List ℕ) LineFault
as_it_is p = Ok p

-- whether a word is the next piece
abbrev pub is_next : List ℕ → List (List ℕ) → Bool
is_next word [] = false
is_next word (p ∷ ps) = same_text word p

-- the next piece is a numeral of this value, whatever may be the most that it may write, and these are behind it
abbrev pub IsNumberNext : List (List ℕ) → ℕ → List (List ℕ) → Type 0
IsNumberNext ps n rest = (most : ℕ) → n ≤ most → next_piece (number_within most) ps ≡ Ok (n, rest)

-- the greatest number of 19 digits
abbrev pub most_of_19_digits : ℕ
most_of_19_digits = 10 ^ 19 - 1

-- these pieces stand behind one that ends where a text begins
abbrev pub Follows : List ℕ → List (List ℕ) → Type 0
Follows [] ps = ps ≡ []
Follows (b ∷ bs) ps = (b ≡ 32) × (ps ≡ pieces bs)

-- a text that begins with a byte that is no space
abbrev pub BeginsPlain : List ℕ → Type 0
BeginsPlain [] = ⊥
BeginsPlain (b ∷ bs) = b ≢ 32

-- the piece of this number among some
abbrev pub piece_among : List (List ℕ) → ℕ → Option (List ℕ)
piece_among [] k = None
piece_among (p ∷ ps) zero = Some p
piece_among (p ∷ ps) (suc k) = piece_among ps k

-- a number of 64 bits
abbrev pub within_64 : ℕ → Option ℕ
within_64 n = if nat_lt n (2 ^ 64) then Some n else None

-- the number that digits write after some, or the fault where one of them is no digit
abbrev pub digits_read : ℕ → List ℕ → Result (Option ℕ) LineFault
digits_read n bs = if list_all is_digit bs then Ok (within_64 (number_after n bs)) else Err line_faults.Number
