-- The one that no other precedes: how every choice of the policy is said.
use Rattle.std.specs.List.{list_any}
use Rattle.std.specs.Prelude.{All, Bool, Contains, List, Option, false, find, not, ◌≡◌}

-- whether some member of the list precedes x
abbrev pub is_preceded : {X : Type 0} → (X → X → Bool) → List X → X → Bool
is_preceded before xs x = list_any (λ y. before y x) xs

-- the member of the list that no member precedes; none where there is no such member
abbrev pub unpreceded : {X : Type 0} → (X → X → Bool) → List X → Option X
unpreceded before xs = find (λ x. not (is_preceded before xs x)) xs

-- x is a member of the list, and no member precedes it
pub record IsUnpreceded {X : Type 0} (before : X → X → Bool) (xs : List X) (x : X) : Type 0 where
  pub member : Contains xs x
  pub first : All (λ y. before y x ≡ false) xs
