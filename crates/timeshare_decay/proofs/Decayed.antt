-- Usage that has decayed.
use Rattle.std.proofs.Common.{◌≡◌, ◌<◌, ◌+◌, ◌-◌, ◌*◌, ◌/◌, ℕ, zero, suc, refl, ap, arith}
use Rattle.flat_policy.specs.Policy.Usage.{decayed_by}

-- what is used up stays so
pub decayed_by-zero : (count : ℕ) → decayed_by count 0 ≡ 0
decayed_by-zero zero = refl
decayed_by-zero (suc count) = decayed_by-zero count

-- the first of the ticks that are left
pub decayed_by-first : (end i usage : ℕ) → i < end → decayed_by (end - i) usage ≡ decayed_by (end - (i + 1)) (usage * 5 / 8)
decayed_by-first end i usage lt =
    let e : end - i ≡ suc (end - (i + 1)) = omega arith in
    ap (λ (n : ℕ). decayed_by n usage) e

-- both, for a tactic to cite
pub ruleset usage_left = (decayed_by-zero, decayed_by-first)
