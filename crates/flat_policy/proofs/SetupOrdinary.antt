-- The times of version 1 in rows.
use Rattle.std.proofs.Common.{Bool, List, [], arith, drop, length, length-take-le, refl, replicate, suc, take, true, zero, ℕ, ◌∷◌, ◌≡◌, ◌≤◌}
use Rattle.std.specs.Prelude.{All, None, ◌++◌, ◌==◌}
use Rattle.std.specs.Cmp.Derive.{both_true}
use Rattle.std.specs.List.{list_all}
use Rattle.std.proofs.lemmas.Bool.{eq-eqb}
use Rattle.std.proofs.lemmas.List.{length-replicate, take-replicate}
use Rattle.flat_policy.proofs.SetupFields.{clusters_pass, head_in}
use Rattle.flat_policy.proofs.SetupTimeRows.{ordinary_times}
use Rattle.flat_policy.specs.Policy.Ranges.{clusters_in_range, common_ranges, first_out_of_range, is_times_row, parts_of, ranged, times_in_range}
use Rattle.flat_policy.specs.Representation.RowParts.{ordinary_rows, parts_of_rows}
use Rattle.flat_policy.specs.declared.setup.Field.TheVariants as fields

-- the test holds of each copy
list_all-replicate : {X : Type 0} (p : X → Bool) (n : ℕ) (x : X) → p x ≡ true → list_all p (replicate n x) ≡ true
list_all-replicate p zero x h = refl
list_all-replicate p (suc n) x h = rw (h, list_all-replicate p n x h) refl

-- every element of copies is the copied one
all_copies : {X : Type 0} (n : ℕ) (x : X) → All (λ y. y ≡ x) (replicate n x)
all_copies zero x k d below = absurd (omega arith)
all_copies (suc n) x zero d below = refl
all_copies (suc n) x (suc k) d below = all_copies n x k d (omega arith)

-- the eight copies of which as many are taken as there are clusters
abbrev copies : List (List ℕ) → List (List (List ℕ))
copies rows = rows ∷ rows ∷ rows ∷ rows ∷ rows ∷ rows ∷ rows ∷ rows ∷ []

taken : (n : ℕ) (rows : List (List ℕ)) → n ≤ 8 → take n (copies rows) ≡ replicate n rows
taken n rows h = take-replicate n 8 rows h

-- their ranges
pub ordinary_in_range : (n : ℕ) (rows : List (List ℕ)) → rows ≡ ordinary_rows → n ≤ 8 → times_in_range n (take n (copies rows)) ≡ true
ordinary_in_range n rows is h =
    rw (taken n rows h, is)
    (both_true (eq-eqb (length (replicate n ordinary_rows)) n (length-replicate n ordinary_rows)) (list_all-replicate is_times_row n ordinary_rows refl))

-- each is the one
pub ordinary_each : (n : ℕ) (rows : List (List ℕ)) → rows ≡ ordinary_rows → n ≤ 8 → All (λ r. r ≡ ordinary_rows) (take n (copies rows))
ordinary_each n rows is h = rw (taken n rows h, is) (all_copies n ordinary_rows)

-- the parts are those of version 1
pub ordinary_parts : (clusters edges groups : List (List ℕ)) (threads : ℕ) (rows : List (List ℕ)) →
    rows ≡ ordinary_rows → length clusters ≤ 8 →
    parts_of_rows clusters edges groups threads (take (length clusters) (copies rows)) 1 ≡ parts_of clusters edges groups threads
ordinary_parts clusters edges groups threads rows is h =
    let times = take (length clusters) (copies rows) in
    rw (ordinary_times times clusters (ordinary_each (length clusters) rows is h) (length-take-le (length clusters) (copies rows) h)) refl

-- a setup in range has at most eight clusters
pub few_clusters : (clusters edges groups : List (List ℕ)) (threads version : ℕ) →
    first_out_of_range clusters edges groups threads version ≡ None → length clusters ≤ 8
few_clusters clusters edges groups threads version h =
    (clusters_pass clusters (head_in fields.Clusters (clusters_in_range clusters) (drop 1 (common_ranges clusters edges groups threads) ++ ranged fields.Version (version == 1) ∷ []) h)).most
