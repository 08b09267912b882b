-- A property of each member of a list, one after another.
use Rattle.std.proofs.Common.{◌≡◌, suc, List, [], ◌∷◌, All, Bool, true, map, refl, arith}
use Rattle.std.proofs.lemmas.Bool.{and_from}
use Rattle.std.specs.List.{list_all}

abbrev pub Each : {A : Type 0} → (A → Type 0) → List A → Type 0
Each P [] = Unit {0}
Each P (x ∷ xs) = P x × Each P xs

pub each_from : {A : Type 0} → (P : A → Type 0) (xs : List A) → All P xs → Each P xs
each_from P [] all = tt
each_from P (x ∷ xs) all = (all 0 x (omega arith), each_from P xs (λ k d below. all (suc k) d (omega arith)))

pub each_so : {A : Type 0} → (P Q : A → Type 0) → ((x : A) → P x → Q x) → (xs : List A) → Each P xs → Each Q xs
each_so P Q so [] each = tt
each_so P Q so (x ∷ xs) each = (so x each.0, each_so P Q so xs each.1)

-- of each image
pub each_mapped : {A B : Type 0} → (P : A → Type 0) (Q : B → Type 0) (f : A → B) → ((x : A) → P x → Q (f x)) → (xs : List A) → Each P xs → Each Q (map f xs)
each_mapped P Q f so [] each = tt
each_mapped P Q f so (x ∷ xs) each = (so x each.0, each_mapped P Q f so xs each.1)

-- a test that each passes
pub each_passes : {A : Type 0} → (P : A → Type 0) (p : A → Bool) → ((x : A) → P x → p x ≡ true) → (xs : List A) → Each P xs → list_all p xs ≡ true
each_passes P p so [] each = refl
each_passes P p so (x ∷ xs) each = and_from (p x) (list_all p xs) (so x each.0) (each_passes P p so xs each.1)

-- what was mapped and mapped back
pub mapped_back : {A B : Type 0} → (f : A → B) (g : B → A) (P : A → Type 0) → ((x : A) → P x → g (f x) ≡ x) → (xs : List A) → Each P xs → map g (map f xs) ≡ xs
mapped_back f g P back [] each = refl
mapped_back f g P back (x ∷ xs) each = rw (back x each.0, mapped_back f g P back xs each.1) refl
