-- How often slots stand in trees.
use Rattle.std.proofs.Common.{◌≡◌, ◌≢◌, ℕ, ◌+◌, ◌<◌, ◌≤◌, Bool, true, false, cond, refl, ap, inl, inr, arith}
use Rattle.std.proofs.lemmas.Bool.{eq-eqb, eqb-true, cases_eq}
use Rattle.std.specs.Prelude.{◌==◌, if◌then◌else◌}
use Rattle.pairing_heap.specs.Tree.{Tree, node, slot_count}

-- one for a slot that equals another
abbrev pub one : ℕ → ℕ → ℕ
one slot other = if slot == other then 1 else 0

pub one_same : (slot : ℕ) → one slot slot ≡ 1
one_same slot = ap {B = ℕ} (λ b. cond b 1 0) (eq-eqb slot slot refl)

pub one_other : (slot other : ℕ) → slot ≢ other → one slot other ≡ 0
one_other slot other differs = other_case (slot == other) refl
  where
    other_case : (b : Bool) → (slot == other) ≡ b → ◌≡◌ {A = ℕ} (cond b 1 0) 0
    other_case true is = absurd (differs (eqb-true slot other is))
    other_case false is = refl

pub one_most : (slot other : ℕ) → one slot other ≤ 1
one_most slot other = most (slot == other)
  where
    most : (b : Bool) → cond b 1 0 ≤ 1
    most true = omega arith
    most false = omega arith

-- a slot that stands nowhere, beside slots that stand once at most
pub once_beside : (times : ℕ → ℕ) (slot : ℕ) → ((other : ℕ) → times other ≤ 1) → times slot ≡ 0 → (other : ℕ) → times other + one slot other ≤ 1
once_beside times slot once none other =
    elim (cases_eq slot other) [
      | inl same ↦ omega (arith, one_most slot other, none, ap times same)
      | inr differs ↦ omega (arith, once other, one_other slot other differs)
    ]

module _ {X : Type 0} where
  pub slot_count-root : (key : X) (slot : ℕ) (children rest : Tree X) → slot_count slot (node key slot children rest) ≡ 1 + (slot_count slot children + slot_count slot rest)
  slot_count-root key slot children rest = ap (λ n. n + (slot_count slot children + slot_count slot rest)) (one_same slot)

  -- a slot of a tree differs from one that the tree has not
  pub apart : (tree : Tree X) (slot other : ℕ) → slot_count slot tree ≡ 0 → 0 < slot_count other tree → other ≢ slot
  apart tree slot other none some same = omega (arith, ap (λ s. slot_count s tree) same)
