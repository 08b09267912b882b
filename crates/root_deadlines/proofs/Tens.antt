-- Lists of ten: a fact of each list written out is a fact of each list of length ten.
use Rattle.std.proofs.Common.{◌≡◌, List, [], ◌∷◌, length, arith}

pub by_ten : {X : Type 0} (P : List X → Type 0) → ((a b c d e f g h i j : X) → P (a ∷ b ∷ c ∷ d ∷ e ∷ f ∷ g ∷ h ∷ i ∷ j ∷ []))
    → (xs : List X) → length xs ≡ 10 → P xs
by_ten P p (a ∷ b ∷ c ∷ d ∷ e ∷ f ∷ g ∷ h ∷ i ∷ j ∷ []) ten = p a b c d e f g h i j
by_ten P p xs ten = absurd (omega arith)
