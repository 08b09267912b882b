-- A book among the fresh books of the first desks.
use Rattle.std.proofs.Common.{◌≡◌, ◌+◌, ◌<◌, ℕ, List, [], ◌∷◌, drop, get_or, length, Some, slice_index_or, slice_set, suc, zero, sym, ap, ◌∙◌, arith}
use Rattle.std.proofs.lemmas.List.{set-get_or}
use Rattle.rights.specs.Values.{Account, DeskId}
use Rattle.cells.specs.Desks.{AreFresh, StandsAt, fresh_book}

-- the book of a number stands at the desk of that number
pub stands_at : (desks : List DeskId) (books : List Account) (k : ℕ) (b : Account) → AreFresh desks books → k < length books → b ≡ slice_index_or books k b → StandsAt desks k b.desk
stands_at [] [] k b e there at = absurd (omega arith)
stands_at [] (x ∷ xs) k b e there at = absurd (omega (arith, ap length e))
stands_at (d ∷ ds) [] k b e there at = absurd (omega arith)
stands_at (d ∷ ds) (x ∷ xs) zero b e there at =
    let first : x ≡ fresh_book d = ap (λ ys. get_or ys 0 x) e in
    let is : b ≡ x = at in
    ap (λ (y : Account). Some y.desk) (sym (is ∙ first))
stands_at (d ∷ ds) (x ∷ xs) (suc k) b e there at =
    let others : AreFresh ds xs = ap (drop 1) e in
    stands_at ds xs k b others (omega arith) at

-- none more minted in a book
pub none_more : (b : Account) → record b { minted = b.minted + 0 } ≡ b
none_more b =
    let same : b.minted + 0 ≡ b.minted = omega arith in
    λ i. record { desk = b.desk; minted = same i; parked = b.parked }

-- a book that is put back as it was
pub put_back : (books : List Account) (k : ℕ) (b new : Account) → b ≡ slice_index_or books k b → new ≡ record b { minted = b.minted + 0 } → slice_set books k new ≡ books
put_back books k b new at is = ap (slice_set books k) (is ∙ none_more b ∙ at) ∙ set-get_or books k b
