-- Numerals and other pieces, read again.
use Rattle.std.proofs.Common.{[], arith, decimal, get_or, inl, inr, length, List, refl, rules, ℕ, ◌-◌, ◌<◌, ◌^◌, ◌≡◌, ◌≢◌, ◌≤◌, ◌⊎◌, ◌∷◌, ◌&&◌, Bool, IfSome, None, Ok, Option, Some, false, not, true}
use Rattle.std.specs.List.{list_all}
use Rattle.std.proofs.Math.Dec.{eqb, leb}
use Rattle.std.proofs.lemmas.Bool.{and_parts, cases_lt, leb-true, le-leb, ne_eqb}
use Rattle.std.proofs.lemmas.Fmt.{decimal_digit, decimal_nonempty, digits_decimal, digits_value-decimal, first_decimal}
use Rattle.std.proofs.lemmas.Str.Parse.{IsNumeralModel, numerals_by_fold}
use Rattle.sched_base.specs.declared.Bucket.{Bucket}
use Rattle.sched_base.specs.declared.Bucket.TheVariants.{Bg, Df, Fg, Ini, Ui, Ut}
use Rattle.flat_policy.specs.Texts.Pieces.{bound_piece, bound_within, bucket_piece, bucket_words, end_piece, end_words, is_digit, is_numeral, number_after, number_within, same_text, word_among}
use Rattle.trace_text.specs.Spaces.{is_plain}

pub own : IsNumeralModel (λ ds. list_all is_digit ds ≡ true) (number_after 0)
own = numerals_by_fold _ (search rules) number_after (search rules)

-- ---- a piece has no space

digit_not_space : (b : ℕ) → is_digit b ≡ true → eqb b 32 ≡ false
digit_not_space b e =
    let parts = and_parts (leb 48 b) (leb b 57) e in
    let low = leb-true 48 b parts.0 in
    ne_eqb b 32 (λ same. omega arith)

pub digits_plain : (ds : List ℕ) → list_all is_digit ds ≡ true → is_plain ds ≡ true
digits_plain [] e = refl
digits_plain (b ∷ bs) e =
    let parts = and_parts (is_digit b) (list_all is_digit bs) e in
    rw (digit_not_space b parts.0) (digits_plain bs parts.1)

pub decimal_plain : (n : ℕ) → n < 2 ^ 64 → is_plain (decimal n) ≡ true
decimal_plain n lt = digits_plain (decimal n) (digits_decimal own n lt)

-- ---- a numeral

pub numeral_from : (ds : List ℕ) → list_all is_digit ds ≡ true → 0 < length ds → (get_or ds 0 0 ≢ 48) ⊎ (length ds ≡ 1) → is_numeral ds ≡ true
numeral_from [] e some first = absurd (omega arith)
numeral_from (b ∷ []) e some first = (and_parts (is_digit b) true e).0
numeral_from (b ∷ c ∷ bs) e some (inl unlike) =
    let parts = and_parts (is_digit b) (list_all is_digit (c ∷ bs)) e in
    let other : eqb b 48 ≡ false = ne_eqb b 48 unlike in
    rw (parts.0, other) parts.1
numeral_from (b ∷ c ∷ bs) e some (inr one) = absurd (omega arith)

decimal_numeral : (n : ℕ) → n < 2 ^ 64 → is_numeral (decimal n) ≡ true
decimal_numeral n lt =
    let digits = digits_decimal own n lt in
    let some = decimal_nonempty n lt in
    elim (cases_lt 0 n) [
      | inl above ↦ numeral_from (decimal n) digits some (inl (λ same. omega (arith, first_decimal n above lt)))
      | inr zero ↦ numeral_from (decimal n) digits some (inr (rw (decimal_digit n (omega arith)) refl))
    ]

pub number_again : (most n : ℕ) → n ≤ most → n < 2 ^ 64 → number_within most (decimal n) ≡ Ok n
number_again most n le lt = rw (decimal_numeral n lt, digits_value-decimal own n lt, le-leb n most le) refl

pub byte_again : (most n : ℕ) → n ≤ most → n ≤ 127 → number_within most (decimal n) ≡ Ok n
byte_again most n le small = number_again most n le (omega arith)

pub word_again : (n : ℕ) → n < 2 ^ 32 → number_within (2 ^ 32 - 1) (decimal n) ≡ Ok n
word_again n lt = number_again (2 ^ 32 - 1) n (omega arith) (omega arith)

-- ---- the other pieces

pub bucket_again : (b : Bucket) → word_among bucket_words (bucket_piece b) ≡ Ok b
bucket_again Ui = refl
bucket_again Fg = refl
bucket_again Ini = refl
bucket_again Df = refl
bucket_again Ut = refl
bucket_again Bg = refl

pub end_again : (head : Bool) → word_among end_words (end_piece head) ≡ Ok head
end_again true = refl
end_again false = refl

-- a numeral is not `-`
numeral_not_dash : (ds : List ℕ) → is_numeral ds ≡ true → same_text ds (45 ∷ []) ≡ false
numeral_not_dash [] e = refl
numeral_not_dash (b ∷ []) e =
    let parts = and_parts (leb 48 b) (leb b 57) e in
    let low = leb-true 48 b parts.0 in
    rw (ne_eqb b 45 (λ same. omega arith)) refl
numeral_not_dash (b ∷ c ∷ bs) e =
    let parts = and_parts (is_digit b && not (eqb b 48)) (list_all is_digit (c ∷ bs)) e in
    let first = and_parts (is_digit b) (not (eqb b 48)) parts.0 in
    let digit = and_parts (leb 48 b) (leb b 57) first.0 in
    let low = leb-true 48 b digit.0 in
    rw (ne_eqb b 45 (λ same. omega arith)) refl

pub bound_again : (o : Option ℕ) → IfSome o (λ c. c ≤ 15) → bound_within (bound_piece o) ≡ Ok o
bound_again None fits = refl
bound_again (Some c) fits =
    rw (numeral_not_dash (decimal c) (decimal_numeral c (omega arith)), byte_again 15 c fits (omega arith)) refl

-- ---- pieces without a space

pub bucket_plain : (b : Bucket) → is_plain (bucket_piece b) ≡ true
bucket_plain Ui = refl
bucket_plain Fg = refl
bucket_plain Ini = refl
bucket_plain Df = refl
bucket_plain Ut = refl
bucket_plain Bg = refl

pub end_plain : (head : Bool) → is_plain (end_piece head) ≡ true
end_plain true = refl
end_plain false = refl

pub bound_plain : (o : Option ℕ) → IfSome o (λ c. c ≤ 15) → is_plain (bound_piece o) ≡ true
bound_plain None fits = refl
bound_plain (Some c) fits = decimal_plain c (omega arith)
