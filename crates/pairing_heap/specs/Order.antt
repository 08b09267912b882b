-- What the comparison of a heap's keys must be.
use Rattle.std.specs.Prelude.{◌≡◌, ℕ, nat_lt, Bool, true, false}
use Rattle.std.proofs.Common.{le-ltb, le_antisymm, le_refl, lt-ltb, lt_trans, ltb-false, ltb-true}

-- no key precedes itself, precedence passes on, and of two unlike keys one precedes
pub record IsStrictOrder {X : Type 0} (precedes : X → X → Bool) : Type 0 where
  pub irreflexive : (a : X) → precedes a a ≡ false
  pub transitive : (a b c : X) → precedes a b ≡ true → precedes b c ≡ true → precedes a c ≡ true
  pub total : (a b : X) → precedes a b ≡ false → precedes b a ≡ false → a ≡ b

less_irreflexive : (a : ℕ) → nat_lt a a ≡ false
less_irreflexive a = le-ltb a a (le_refl a)

less_transitive : (a b c : ℕ) → nat_lt a b ≡ true → nat_lt b c ≡ true → nat_lt a c ≡ true
less_transitive a b c ab bc = lt-ltb a c (lt_trans (ltb-true a b ab) (ltb-true b c bc))

less_total : (a b : ℕ) → nat_lt a b ≡ false → nat_lt b a ≡ false → a ≡ b
less_total a b ab ba = le_antisymm (ltb-false b a ba) (ltb-false a b ab)

-- numbers are strictly ordered
pub number_order : IsStrictOrder nat_lt
number_order = record { irreflexive = less_irreflexive; transitive = less_transitive; total = less_total }
