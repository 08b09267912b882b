-- A word that is put byte by byte.
use Rattle.std.proofs.Common.{[], ap, append_assoc, arith, get_or, length, List, sym, take, ℕ, ◌++◌, ◌+◌, ◌<◌, ◌≡◌, ◌∙◌, ◌∷◌}
use Rattle.std.proofs.Math.ListN.{set}
use Rattle.std.proofs.lemmas.List.{take_more, take_more_set}

pub byte_put : (room front word : List ℕ) (at i : ℕ) → at + i < length room → i < length word → take (at + i) room ≡ front ++ take i word
    → take (at + (i + 1)) (set room (at + i) (get_or word i 0)) ≡ front ++ take (i + 1) word
byte_put room front word at i within lt so =
    let b = get_or word i 0 in
    let next : at + (i + 1) ≡ (at + i) + 1 = omega arith in
    ap (λ (k : ℕ). take k (set room (at + i) b)) next
    ∙ take_more_set room (at + i) b within
    ∙ ap (λ (xs : List ℕ). xs ++ b ∷ []) so
    ∙ append_assoc front (take i word) (b ∷ [])
    ∙ ap (λ (xs : List ℕ). front ++ xs) (sym (take_more word i 0 lt))
