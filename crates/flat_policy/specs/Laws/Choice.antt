-- What a strict order of a list's members makes of the choice of the one that no other precedes.
use Rattle.std.specs.Prelude.{Bool, Contains, List, None, Option, Some, [], false, fold, if◌then◌else◌, is_some, true, ◌≡◌, ◌↔◌, ◌∷◌}
use Rattle.flat_policy.specs.Policy.Unpreceded.{IsUnpreceded, unpreceded}

-- a test strictly orders a list's members: none is before itself, what is before carries on, and two of which neither is before the other are one
pub record OrdersMembers {X : Type 0} (before : X → X → Bool) (xs : List X) : Type 0 where
  pub irreflexive : (x : X) → Contains xs x → before x x ≡ false
  pub transitive : (x y z : X) → Contains xs x → Contains xs y → Contains xs z → before x y ≡ true → before y z ≡ true → before x z ≡ true
  pub total : (x y : X) → Contains xs x → Contains xs y → before x y ≡ false → before y x ≡ false → x ≡ y

-- whether a list has a member
abbrev pub has_member : {X : Type 0} → List X → Bool
has_member [] = false
has_member (x ∷ xs) = true

-- the better of the best so far and one more; where neither is before the other the first stays
abbrev pub better : {X : Type 0} → (X → X → Bool) → Option X → X → Option X
better before None y = Some y
better before (Some x) y = if before y x then Some y else Some x

-- the choice is there exactly where the list has members, is the only member that none precedes, and is the best by one pass over the list
pub record ChoosesOne {X : Type 0} (before : X → X → Bool) (xs : List X) : Type 0 where
  pub there : is_some (unpreceded before xs) ≡ has_member xs
  pub chosen : (x : X) → (unpreceded before xs ≡ Some x) ↔ IsUnpreceded before xs x
  pub only : (x y : X) → IsUnpreceded before xs x → IsUnpreceded before xs y → x ≡ y
  pub by_scan : fold (better before) None xs ≡ unpreceded before xs

-- under a strict order the choice is one
abbrev pub ChoiceIsOne : Type 0 → Type 0
ChoiceIsOne X = (before : X → X → Bool) (xs : List X) → OrdersMembers before xs → ChoosesOne before xs

-- two lists have the same members
pub record SameMembers {X : Type 0} (xs ys : List X) : Type 0 where
  pub there : (x : X) → Contains xs x → Contains ys x
  pub back : (x : X) → Contains ys x → Contains xs x

-- under a strict order the choice goes by the members alone, and not by where they stand in the list
abbrev pub ChoiceGoesByMembers : Type 0 → Type 0
ChoiceGoesByMembers X = (before : X → X → Bool) (xs ys : List X) → OrdersMembers before xs → SameMembers xs ys → unpreceded before xs ≡ unpreceded before ys
