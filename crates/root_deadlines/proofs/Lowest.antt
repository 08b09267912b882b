-- The lowest set bit of a bitmap is the index of its highest lane, and what is left without it.
use Rattle.std.proofs.Common.{◌≡◌, ℕ, zero, suc, ◌+◌, ◌<◌, ◌≤◌, ◌^◌, ◌%◌, ◌/◌, ◌==◌, Bool, false, List, min, [], ◌∷◌, length, refl, sym, ap, ◌∙◌, arith}
use Rattle.std.specs.Prelude.{bit_and, slice_get}
use Rattle.std.specs.Int.{bit_at}
use Rattle.std.proofs.lemmas.Nat.{shr-shr}
use Rattle.std.proofs.lemmas.Nat.Bits.{bit_at-lt, bit_at_and}
use lib.Count.{count_trailing_zeros, under}
use Rattle.flat_policy.specs.Policy.Queue.{timeshare_lanes}
use Rattle.root_deadlines.specs.Bits.{flag_at, flags_of}
use Rattle.root_deadlines.specs.Lanes.{behind_first, filled_among, first_of}

-- the flags of so many indices, from one on
abbrev flags_from : ℕ → ℕ → ℕ → List Bool
flags_from n i zero = []
flags_from n i (suc m) = flag_at n i ∷ flags_from n (suc i) m

-- one index further
zeros_step : (k n i : ℕ) → count_trailing_zeros (suc k) (n / 2 ^ i) ≡ under (bit_at n i) (count_trailing_zeros k (n / 2 ^ suc i))
unfolding count_trailing_zeros
zeros_step k n i =
    let next : n / 2 ^ i / 2 ≡ n / 2 ^ suc i = shr-shr n i 1 ∙ ap (λ j. n / 2 ^ j) (omega arith) in
    ap (λ m. under (n / 2 ^ i % 2) (count_trailing_zeros k m)) next

by_digit : {X : Type 0} (d t : ℕ) (x : X) (fs : List Bool) (xs : List X) → d < 2 → first_of (filled_among fs xs) ≡ slice_get xs t → first_of (filled_among ((d == 1) ∷ fs) (x ∷ xs)) ≡ slice_get (x ∷ xs) (under d t)
by_digit zero t x fs xs small rest = rest
by_digit (suc zero) t x fs xs small rest = refl
by_digit (suc (suc d)) t x fs xs small rest = absurd (omega (arith, small))

lowest_from : {X : Type 0} (n i k : ℕ) (xs : List X) → length xs ≤ k → first_of (filled_among (flags_from n i (length xs)) xs) ≡ slice_get xs (count_trailing_zeros k (n / 2 ^ i))
lowest_from n i k [] fits = refl
lowest_from n i zero (x ∷ xs) fits = absurd (omega (arith, fits))
lowest_from n i (suc k) (x ∷ xs) fits =
    by_digit (bit_at n i) (count_trailing_zeros k (n / 2 ^ suc i)) x (flags_from n (suc i) (length xs)) xs (bit_at-lt n i)
    (lowest_from n (suc i) k xs (omega (arith, fits)))
    ∙ ap (slice_get (x ∷ xs)) (sym (zeros_step k n i))

pub lowest_is : (n : ℕ) → slice_get timeshare_lanes (count_trailing_zeros 16 n) ≡ first_of (filled_among (flags_of n) timeshare_lanes)
lowest_is n =
    ap (λ m. slice_get timeshare_lanes (count_trailing_zeros 16 m)) (whole n)
    ∙ sym (lowest_from n 0 16 timeshare_lanes (omega arith))
  where
    whole : (m : ℕ) → m ≡ m / 2 ^ 0
    whole m = omega arith

halved : (n i : ℕ) → n / 2 ^ i / 2 ≡ n / 2 ^ suc i
halved n i = shr-shr n i 1 ∙ ap (λ j. n / 2 ^ j) (omega arith)

-- the flags that two numbers share, from one index on
abbrev shared_from : ℕ → ℕ → ℕ → ℕ → List Bool
shared_from n k i zero = []
shared_from n k i (suc m) = (min (bit_at n i) (bit_at k i) == 1) ∷ shared_from n k (suc i) m

same_stay : (n k i m : ℕ) → k / 2 ^ i ≡ n / 2 ^ i → shared_from n k i m ≡ flags_from n i m
same_stay n k i zero same = refl
same_stay n k i (suc m) same =
    let here : bit_at k i ≡ bit_at n i = ap (λ q. q % 2) same in
    let next : k / 2 ^ suc i ≡ n / 2 ^ suc i = sym (halved k i) ∙ ap (λ q. q / 2) same ∙ halved n i in
    let both : min (bit_at n i) (bit_at k i) ≡ bit_at n i = omega (arith, here) in
    ap (λ b. (b == 1) ∷ shared_from n k (suc i) m) both
    ∙ ap (λ fs. flag_at n i ∷ fs) (same_stay n k (suc i) m next)

-- one less: the digit at the lowest set bit is gone, and those above it stay
odd_less : (a b : ℕ) → b + 1 ≡ a → a % 2 ≡ 1 → (b % 2 ≡ 0) × (b / 2 ≡ a / 2)
odd_less a b less odd = (omega (arith, less, odd), omega (arith, less, odd))

even_less : (a b : ℕ) → b + 1 ≡ a → a % 2 ≡ 0 → b / 2 + 1 ≡ a / 2
even_less a b less even = omega (arith, less, even)

by_less : (d e : ℕ) (tail rest : List Bool) → d < 2 → (d ≡ 1 → (e ≡ 0) × (tail ≡ rest)) → (d ≡ 0 → tail ≡ behind_first rest)
    → (min d e == 1) ∷ tail ≡ behind_first ((d == 1) ∷ rest)
by_less zero e tail rest small odd even =
    let none : min 0 e ≡ 0 = omega arith in
    ap (λ b. (b == 1) ∷ tail) none ∙ ap (λ fs. false ∷ fs) (even refl)
by_less (suc zero) e tail rest small odd even =
    let both = odd refl in
    let none : min 1 e ≡ 0 = omega (arith, both.0) in
    ap (λ b. (b == 1) ∷ tail) none ∙ ap (λ fs. false ∷ fs) both.1
by_less (suc (suc d)) e tail rest small odd even = absurd (omega (arith, small))

one_less : (n k i m : ℕ) → k / 2 ^ i + 1 ≡ n / 2 ^ i → shared_from n k i m ≡ behind_first (flags_from n i m)
one_less n k i zero less = refl
one_less n k i (suc m) less =
    by_less (bit_at n i) (bit_at k i) (shared_from n k (suc i) m) (flags_from n (suc i) m) (bit_at-lt n i)
    (λ odd. (let parts = odd_less (n / 2 ^ i) (k / 2 ^ i) less odd in
    (parts.0, same_stay n k (suc i) m (sym (halved k i) ∙ parts.1 ∙ halved n i))))
    (λ even. one_less n k (suc i) m (ap (λ q. q + 1) (sym (halved k i)) ∙ even_less (n / 2 ^ i) (k / 2 ^ i) less even ∙ halved n i))

shared_is : (n k : ℕ) → flags_of (bit_and n k) ≡ shared_from n k 0 10
shared_is n k =
    rw (
      bit_at_and n k 0,
      bit_at_and n k 1,
      bit_at_and n k 2,
      bit_at_and n k 3,
      bit_at_and n k 4,
      bit_at_and n k 5,
      bit_at_and n k 6,
      bit_at_and n k 7,
      bit_at_and n k 8,
      bit_at_and n k 9,
    ) refl

-- a number below the width of a bitmap, without its lowest set bit
pub behind_is : (n : ℕ) → n < 65536 → flags_of (bit_and n ((n + 65535) % 65536)) ≡ behind_first (flags_of n)
behind_is zero small = refl
behind_is (suc k) small =
    let less : (suc k + 65535) % 65536 ≡ k = omega (arith, small) in
    let lower : k / 2 ^ 0 + 1 ≡ suc k / 2 ^ 0 = omega arith in
    ap (λ l. flags_of (bit_and (suc k) l)) less ∙ shared_is (suc k) k ∙ one_less (suc k) k 0 10 lower
