-- A digit that stands alone is a numeral.
use Rattle.std.proofs.Common.{[], List, arith, drop, get_or, length, refl, true, ℕ, ◌-◌, ◌≡◌, ◌≤◌, ◌∷◌}
use Rattle.flat_policy.specs.Texts.Pieces.{digit_value, is_digit, pieces}
use Rattle.trace_text.proofs.Scanning.{number_next, one_numeral}
use Rattle.trace_text.specs.Reading.{Follows, IsNumberNext}

digit_next : (d : ℕ) (others : List ℕ) (qs : List (List ℕ)) → is_digit d ≡ true → Follows others qs → IsNumberNext (pieces (d ∷ others)) (digit_value d) qs
digit_next d others qs digit f =
    number_next (d ∷ others) (digit_value d) 1 qs (rw digit refl) (one_numeral (d ∷ others) (omega arith) (rw digit refl)) (omega arith) f

pub digit_front : (text : List ℕ) (qs : List (List ℕ)) → 1 ≤ length text → is_digit (get_or text 0 0) ≡ true → Follows (drop 1 text) qs
    → IsNumberNext (pieces text) (get_or text 0 0 - 48) qs
digit_front [] qs some digit f = absurd (omega (arith, some))
digit_front (d ∷ others) qs some digit f = digit_next d others qs digit f
