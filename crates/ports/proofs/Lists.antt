-- What is handed out of a buffer, and what stays there.
use Rattle.std.proofs.Common.{◌≡◌, ℕ, ◌+◌, List, ◌++◌, length, take, drop, sym, ◌∙◌, ap}
use Rattle.std.proofs.lemmas.List.{drop-drop, take-append-drop}
use Rattle.std.proofs.Math.Seq.{take-append_seam}

-- the first n of a list of n elements before others
pub take-append-exact : (xs ys : List ℕ) (n : ℕ) → n ≡ length xs → take n (xs ++ ys) ≡ xs
take-append-exact xs ys n is = rw is (take-append_seam xs ys)

-- bytes at a place are those that were copied from there, and the ones behind them
pub handed_out : (bytes front rest : List ℕ) (at n : ℕ) → front ≡ take n (drop at bytes) → n ≡ length front →
    drop at bytes ≡ take n (front ++ rest) ++ drop (at + n) bytes
handed_out bytes front rest at n copied long =
    sym (take-append-drop n (drop at bytes))
    ∙ ap (λ (xs : List ℕ). take n (drop at bytes) ++ xs) (drop-drop n at bytes)
    ∙ ap (λ (xs : List ℕ). xs ++ drop (at + n) bytes) (sym copied ∙ sym (take-append-exact front rest n long))
