-- Edges whose ends all differ.
use Rattle.std.proofs.Common.{Bool, List, [], arith, false, get_or, length, map, not, refl, suc, true, zero, ℕ, ◌<◌, ◌∷◌, ◌≡◌, ◌||◌}
use Rattle.std.specs.Prelude.{AllPairs}
use Rattle.std.specs.List.{list_any}
use Rattle.std.proofs.lemmas.Bool.{eq-eqb}
use Rattle.std.proofs.lemmas.List.{get_or-map, length-map}
use Rattle.flat_policy.proofs.SetupFields.{both}
use Rattle.flat_policy.specs.Policy.BuiltSetups.{OtherEnds}
use Rattle.flat_policy.specs.Policy.Ranges.{edge_of_row, ends_differ, nth, same_ends}

list_any_step : {X : Type 0} (p : X → Bool) (b : Bool) (xs : List X) → not (b || list_any p xs) ≡ true → (b ≡ false) × (not (list_any p xs) ≡ true)
list_any_step p true xs h = absurd (cc)
list_any_step p false xs h = (refl, h)

-- a test that holds of none does not hold of each
pub list_any_false : {X : Type 0} (p : X → Bool) (xs : List X) (k : ℕ) (d : X) →
    not (list_any p xs) ≡ true → k < length xs → p (get_or xs k d) ≡ false
list_any_false p [] k d h below = absurd (omega arith)
list_any_false p (x ∷ xs) zero d h below = (list_any_step p (p x) xs h).0
list_any_false p (x ∷ xs) (suc k) d h below = list_any_false p xs k d (list_any_step p (p x) xs h).1 (omega arith)

-- edges whose ends differ, row by row
pub ends_apart : (rows : List (List ℕ)) (i j : ℕ) (d : List ℕ) →
    ends_differ rows ≡ true → i < j → j < length rows → same_ends (get_or rows i d) (get_or rows j d) ≡ false
ends_apart [] i j d h less below = absurd (omega arith)
ends_apart (row ∷ rows) i zero d h less below = absurd (omega arith)
ends_apart (row ∷ rows) zero (suc j) d h less below =
    list_any_false (same_ends row) rows j d (both (not (list_any (same_ends row) rows)) (ends_differ rows) h).0 (omega arith)
ends_apart (row ∷ rows) (suc i) (suc j) d h less below =
    ends_apart rows i j d (both (not (list_any (same_ends row) rows)) (ends_differ rows) h).1 (omega arith) (omega arith)

-- two rows that the test tells apart make edges with other ends
pub other_ends : (x y : List ℕ) → same_ends x y ≡ false → OtherEnds (edge_of_row x) (edge_of_row y)
other_ends x y h same = cc (eq-eqb (nth x 0) (nth y 0) same.0, eq-eqb (nth x 1) (nth y 1) same.1)

-- no two edges have the same ends
pub all_ends : (rows : List (List ℕ)) → ends_differ rows ≡ true → AllPairs OtherEnds (map edge_of_row rows)
all_ends rows h i j d less below =
    let within : j < length rows = omega (arith, length-map rows edge_of_row) in
    let before : i < length rows = omega arith in
    rw (get_or-map edge_of_row rows i [] d before, get_or-map edge_of_row rows j [] d within)
    (other_ends (get_or rows i []) (get_or rows j []) (ends_apart rows i j [] h less within))
