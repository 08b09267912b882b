-- How many digits a number has, and what stands in a buffer where they were put.
use Rattle.std.proofs.Common.{[], ap, arith, decimal, drop, length, length-append, List, sym, take, ℕ, ◌++◌, ◌+◌, ◌/◌, ◌%◌, ◌<◌, ◌^◌, ◌≡◌, ◌≤◌, ◌∙◌, ◌∷◌}
use Rattle.std.proofs.Math.ListN.{set}
use Rattle.std.proofs.Math.Seq.{take-append-add, take-append_seam}
use Rattle.std.proofs.lemmas.Fmt.{decimal_digit, decimal_step, length-decimal-le}
use Rattle.std.proofs.lemmas.List.{length-take-le, take-append-drop, take_more_set}

-- ---- digits

length_step : (n : ℕ) → 10 ≤ n → n < 2 ^ 64 → length (decimal n) ≡ length (decimal (n / 10)) + 1
length_step n some fits = ap length (decimal_step n some fits) ∙ length-append (decimal (n / 10)) ((48 + n % 10) ∷ [])

pub length_one : (n : ℕ) → n < 10 → length (decimal n) ≡ 1
length_one n few = ap length (decimal_digit n few)

pub length_two : (n : ℕ) → 10 ≤ n → n < 100 → length (decimal n) ≡ 2
length_two n some few = omega (arith, length_step n some (omega arith), length_one (n / 10) (omega arith))

pub length_three : (n : ℕ) → 100 ≤ n → n < 1000 → length (decimal n) ≡ 3
length_three n some few = omega (arith, length_step n (omega arith) (omega arith), length_two (n / 10) (omega arith) (omega arith))

pub length_of_four : (n : ℕ) → 1000 ≤ n → n < 10000 → length (decimal n) ≡ 4
length_of_four n some few = omega (arith, length_step n (omega arith) (omega arith), length_three (n / 10) (omega arith) (omega arith))

length_pair : (n : ℕ) → 100 ≤ n → n < 2 ^ 64 → length (decimal n) ≡ length (decimal (n / 100)) + 2
length_pair n some fits =
    let twice : n / 10 / 10 ≡ n / 100 = omega arith in
    let step : length (decimal (n / 10)) ≡ length (decimal (n / 100)) + 1 =
    length_step (n / 10) (omega arith) (omega arith) ∙ ap (λ (k : ℕ). length (decimal k) + 1) twice
    in
    omega (arith, length_step n (omega arith) fits, step)

pub length_four : (n : ℕ) → 10000 ≤ n → n < 2 ^ 64 → length (decimal n) ≡ length (decimal (n / 10000)) + 4
length_four n some fits =
    let twice : n / 100 / 100 ≡ n / 10000 = omega arith in
    let step : length (decimal (n / 100)) ≡ length (decimal (n / 10000)) + 2 =
    length_pair (n / 100) (omega arith) (omega arith) ∙ ap (λ (k : ℕ). length (decimal k) + 2) twice
    in
    omega (arith, length_pair n (omega arith) fits, step)

pub length_eight : (n : ℕ) → 100000000 ≤ n → n < 2 ^ 64 → length (decimal n) ≡ length (decimal (n / 100000000)) + 8
length_eight n some fits =
    let twice : n / 10000 / 10000 ≡ n / 100000000 = omega arith in
    let step : length (decimal (n / 10000)) ≡ length (decimal (n / 100000000)) + 4 =
    length_four (n / 10000) (omega arith) (omega arith) ∙ ap (λ (k : ℕ). length (decimal k) + 4) twice
    in
    omega (arith, length_four n (omega arith) fits, step)

pub length_sixteen : (n : ℕ) → 10000000000000000 ≤ n → n < 2 ^ 64 → length (decimal n) ≡ length (decimal (n / 10000000000000000)) + 16
length_sixteen n some fits =
    let twice : n / 100000000 / 100000000 ≡ n / 10000000000000000 = omega arith in
    let step : length (decimal (n / 100000000)) ≡ length (decimal (n / 10000000000000000)) + 8 =
    length_eight (n / 100000000) (omega arith) (omega arith) ∙ ap (λ (k : ℕ). length (decimal k) + 8) twice
    in
    omega (arith, length_eight n (omega arith) fits, step)

pub byte_short : (n : ℕ) → n < 2 ^ 8 → length (decimal n) ≤ 3
byte_short n fits = length-decimal-le 3 n (omega arith) (omega arith) (omega arith)

pub word_short : (n : ℕ) → n < 2 ^ 32 → length (decimal n) ≤ 10
word_short n fits = length-decimal-le 10 n (omega arith) (omega arith) (omega arith)

pub long_short : (n : ℕ) → n < 2 ^ 64 → length (decimal n) ≤ 20
long_short n fits = length-decimal-le 20 n (omega arith) (omega arith) fits

-- ---- what was put

pub placed : (old new : List ℕ) (at : ℕ) (ds rest : List ℕ) → at ≤ length new → take at new ≡ take at old → drop at new ≡ ds ++ rest → take (at + length ds) new ≡ take at old ++ ds
placed old new at ds rest within before behind =
    let long : length (take at new) ≡ at = length-take-le at new within in
    ap (λ (k : ℕ). take (k + length ds) new) (sym long)
    ∙ ap (take (length (take at new) + length ds)) (sym (take-append-drop at new))
    ∙ take-append-add (take at new) (drop at new) (length ds)
    ∙ ap (λ (xs : List ℕ). take at new ++ take (length ds) xs) behind
    ∙ ap (λ (xs : List ℕ). take at new ++ xs) (take-append_seam ds rest)
    ∙ ap (λ (xs : List ℕ). xs ++ ds) before

pub one_placed : (old : List ℕ) (at n : ℕ) → at < length old → n < 10 → take (at + 1) (set old at (48 + n)) ≡ take at old ++ decimal n
one_placed old at n within few = rw (decimal_digit n few) (take_more_set old at (48 + n) within)
