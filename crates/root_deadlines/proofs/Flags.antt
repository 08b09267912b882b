-- The flags of a bitmap: what is read at a lane's index, and after the bit of a lane is set or cleared.
use Rattle.std.proofs.Common.{◌≡◌, ℕ, zero, suc, ◌<◌, ◌-◌, ◌*◌, ◌^◌, ◌%◌, ◌/◌, ◌==◌, Bool, true, false, ◌&&◌, cond, map, min, nat_lt, refl, sym, ap, ◌∙◌, arith, inl, inr, eq-eqb, le-ltb, lt-ltb, ne_eqb}
use Rattle.std.specs.Prelude.{bit_and, bit_or, slice_index_or, slice_set}
use Rattle.std.specs.Int.{bit_at, w16}
use Rattle.std.proofs.lemmas.Bool.{cases_eq, cases_lt}
use Rattle.std.proofs.lemmas.Nat.Bits.{bit_at-lt, bit_at_and, bit_at_clear_other, bit_at_clear_same, bit_at_ones, bit_at_ones_above, bit_at_set_other, bit_at_set_same, shr_and_one}
use Rattle.sched_base.specs.declared.buckets.Bucket.{Bucket}
use Rattle.sched_base.specs.declared.buckets.Bucket.TheVariants.{Bg, Df, Fg, Ini, Ui, Ut}
use Rattle.flat_policy.specs.Policy.Queue.{lane, timeshare_lanes}
use Rattle.root_deadlines.specs.Bits.{flag_at, flags_of, lane_indices}
use Rattle.root_deadlines.specs.Lanes.{higher_than}
use Rattle.root_deadlines.specs.Indices.{bound_index, index_of_lane}

-- a number with one bit set, and with one bit cleared, as the code computes them
abbrev pub with_bit : ℕ → ℕ → ℕ
with_bit n k = bit_or n (1 * 2 ^ k % 65536)

abbrev pub without_bit : ℕ → ℕ → ℕ
without_bit n k = bit_and n (65535 - (1 * 2 ^ k % 65536))

-- the bit of a lane is below 2^10
pub bit_small : (k : ℕ) → k < 10 → 1 * 2 ^ k % 65536 < 2 ^ 10
bit_small zero small = omega arith
bit_small (suc zero) small = omega arith
bit_small (suc (suc zero)) small = omega arith
bit_small (suc (suc (suc zero))) small = omega arith
bit_small (suc (suc (suc (suc zero)))) small = omega arith
bit_small (suc (suc (suc (suc (suc zero))))) small = omega arith
bit_small (suc (suc (suc (suc (suc (suc zero)))))) small = omega arith
bit_small (suc (suc (suc (suc (suc (suc (suc zero))))))) small = omega arith
bit_small (suc (suc (suc (suc (suc (suc (suc (suc zero)))))))) small = omega arith
bit_small (suc (suc (suc (suc (suc (suc (suc (suc (suc zero))))))))) small = omega arith
bit_small (suc (suc (suc (suc (suc (suc (suc (suc (suc (suc k)))))))))) small = absurd (omega (arith, small))

-- functions that agree below 16 give one list of flags
all_indices : (f g : ℕ → Bool) → ((j : ℕ) → j < 16 → f j ≡ g j) → map f lane_indices ≡ map g lane_indices
all_indices f g h =
    rw (
      h 0 (omega arith),
      h 1 (omega arith),
      h 2 (omega arith),
      h 3 (omega arith),
      h 4 (omega arith),
      h 5 (omega arith),
      h 6 (omega arith),
      h 7 (omega arith),
      h 8 (omega arith),
      h 9 (omega arith),
    ) refl

set_flag : (n k : ℕ) → k < 16 → (j : ℕ) → j < 16 → flag_at (with_bit n k) j ≡ cond (j == k) true (flag_at n j)
set_flag n k within j below =
    elim (cases_eq j k) [
      | inl same ↦ ap (λ i. flag_at (with_bit n k) i) same ∙ ap (λ b. b == 1) (bit_at_set_same w16 n k within)
          ∙ sym (ap (λ b. cond b true (flag_at n j)) (eq-eqb j k same))
      | inr other ↦ ap (λ b. b == 1) (bit_at_set_other w16 n k within j other)
          ∙ sym (ap (λ b. cond b true (flag_at n j)) (ne_eqb j k other))
    ]

clear_flag : (n k : ℕ) → k < 16 → (j : ℕ) → j < 16 → flag_at (without_bit n k) j ≡ cond (j == k) false (flag_at n j)
clear_flag n k within j below =
    elim (cases_eq j k) [
      | inl same ↦ ap (λ i. flag_at (without_bit n k) i) same ∙ ap (λ b. b == 1) (bit_at_clear_same w16 n k within)
          ∙ sym (ap (λ b. cond b false (flag_at n j)) (eq-eqb j k same))
      | inr other ↦ ap (λ b. b == 1) (bit_at_clear_other w16 n k within j below other)
          ∙ sym (ap (λ b. cond b false (flag_at n j)) (ne_eqb j k other))
    ]

-- one index of ten
set_all : (n k : ℕ) → k < 16 → flags_of (with_bit n k) ≡ map (λ j. cond (j == k) true (flag_at n j)) lane_indices
set_all n k within = all_indices _ _ (set_flag n k within)

clear_all : (n k : ℕ) → k < 16 → flags_of (without_bit n k) ≡ map (λ j. cond (j == k) false (flag_at n j)) lane_indices
clear_all n k within = all_indices _ _ (clear_flag n k within)

pub set_is : (n : ℕ) (b : Bucket) (bound : Bool) → (b ≡ Ui → ⊥)
    → flags_of (with_bit n (index_of_lane (lane b bound))) ≡ slice_set (flags_of n) (index_of_lane (lane b bound)) true
set_is n Ui bound other = absurd (other refl)
set_is n Fg true other = set_all n 0 (omega arith)
set_is n Fg false other = set_all n 1 (omega arith)
set_is n Ini true other = set_all n 2 (omega arith)
set_is n Ini false other = set_all n 3 (omega arith)
set_is n Df true other = set_all n 4 (omega arith)
set_is n Df false other = set_all n 5 (omega arith)
set_is n Ut true other = set_all n 6 (omega arith)
set_is n Ut false other = set_all n 7 (omega arith)
set_is n Bg true other = set_all n 8 (omega arith)
set_is n Bg false other = set_all n 9 (omega arith)

pub clear_is : (n : ℕ) (b : Bucket) (bound : Bool) → (b ≡ Ui → ⊥)
    → flags_of (without_bit n (index_of_lane (lane b bound))) ≡ slice_set (flags_of n) (index_of_lane (lane b bound)) false
clear_is n Ui bound other = absurd (other refl)
clear_is n Fg true other = clear_all n 0 (omega arith)
clear_is n Fg false other = clear_all n 1 (omega arith)
clear_is n Ini true other = clear_all n 2 (omega arith)
clear_is n Ini false other = clear_all n 3 (omega arith)
clear_is n Df true other = clear_all n 4 (omega arith)
clear_is n Df false other = clear_all n 5 (omega arith)
clear_is n Ut true other = clear_all n 6 (omega arith)
clear_is n Ut false other = clear_all n 7 (omega arith)
clear_is n Bg true other = clear_all n 8 (omega arith)
clear_is n Bg false other = clear_all n 9 (omega arith)

flag_is : (n : ℕ) (b : Bucket) (bound : Bool) → slice_index_or (flags_of n) (index_of_lane (lane b bound)) false ≡ flag_at n (index_of_lane (lane b bound))
flag_is n Ui true = refl
flag_is n Ui false = refl
flag_is n Fg true = refl
flag_is n Fg false = refl
flag_is n Ini true = refl
flag_is n Ini false = refl
flag_is n Df true = refl
flag_is n Df false = refl
flag_is n Ut true = refl
flag_is n Ut false = refl
flag_is n Bg true = refl
flag_is n Bg false = refl

pub read_is : (n : ℕ) (b : Bucket) (bound : Bool) (p : ℕ) → p ≡ index_of_lane (lane b bound)
    → (bit_and (n / 2 ^ p) 1 == 1) ≡ slice_index_or (flags_of n) (index_of_lane (lane b bound)) false
read_is n b bound p at = ap (λ v. v == 1) (shr_and_one n p) ∙ ap (λ k. flag_at n k) at ∙ sym (flag_is n b bound)

-- the flags of the bits below k
below_flag : (n k j : ℕ) → flag_at (bit_and n (2 ^ k - 1)) j ≡ (flag_at n j && nat_lt j k)
below_flag n k j =
    elim (cases_lt j k) [
      | inl l ↦ ap (λ b. b == 1) (bit_at_and n (2 ^ k - 1) j ∙ ap (min (bit_at n j)) (bit_at_ones k j l) ∙ low)
          ∙ sym (ap (λ b. flag_at n j && b) (lt-ltb j k l) ∙ and_true (flag_at n j))
      | inr g ↦ ap (λ b. b == 1) (bit_at_and n (2 ^ k - 1) j ∙ ap (min (bit_at n j)) (bit_at_ones_above k j g) ∙ none)
          ∙ sym (ap (λ b. flag_at n j && b) (le-ltb j k g) ∙ and_false (flag_at n j))
    ]
  where
    low : min (bit_at n j) 1 ≡ bit_at n j
    low = omega (arith, bit_at-lt n j)

    none : min (bit_at n j) 0 ≡ 0
    none = omega arith

    and_true : (b : Bool) → (b && true) ≡ b
    and_true true = refl
    and_true false = refl

    and_false : (b : Bool) → (b && false) ≡ false
    and_false true = refl
    and_false false = refl

below_all : (n k : ℕ) → flags_of (bit_and n (2 ^ k - 1)) ≡ map (λ j. flag_at n j && nat_lt j k) lane_indices
below_all n k = all_indices _ _ (λ j within. below_flag n k j)

pub masked_is : (n : ℕ) (b : Bucket) → flags_of (bit_and n (2 ^ bound_index b - 1)) ≡ higher_than b timeshare_lanes (flags_of n)
masked_is n Ui = below_all n 0
masked_is n Fg = below_all n 0
masked_is n Ini = below_all n 2
masked_is n Df = below_all n 4
masked_is n Ut = below_all n 6
masked_is n Bg = below_all n 8
