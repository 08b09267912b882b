-- Tables of a number for each pair.
use Rattle.std.proofs.Common.{◌≡◌, ◌≢◌, ◌<◌, ℕ, List, [], map, get_or, set, Bool, true, false, nat_eq, cond, refl, sym, ap, arith, ◌∙◌, replicate}
use Rattle.flat_policy.specs.Policy.Setup.{numbers_below}
use Rattle.edge_matrix.specs.EdgeTables.{number_at, table_of}
use Rattle.edge_matrix.proofs.Numbers.{get_or-map_numbers, map_numbers-but_one, map_numbers-same}

-- a table with another number for a pair
abbrev pub with_number : ℕ → ℕ → ℕ → List (List ℕ) → List (List ℕ)
with_number i j number table = set table i (set (get_or table i []) j number)

-- a row of a table
pub get_or-table_of : (number : ℕ → ℕ → ℕ) (i : ℕ) → i < 8 → get_or (table_of number) i [] ≡ map (number i) (numbers_below 8)
unfolding table_of
get_or-table_of number i row = get_or-map_numbers (λ k. map (number k) (numbers_below 8)) 0 8 i [] row ∙ ap (λ k. map (number k) (numbers_below 8)) (omega arith)

-- the number of a pair in its table
pub number_at-table_of : (number : ℕ → ℕ → ℕ) (i j : ℕ) → i < 8 → j < 8 → number_at (table_of number) i j ≡ number i j
number_at-table_of number i j row column =
    ap (λ (xs : List ℕ). get_or xs j 0) (get_or-table_of number i row) ∙ get_or-map_numbers (number i) 0 8 j 0 column ∙ ap (number i) (omega arith)

-- the table of a function that differs at one pair
pub table_of-but_one : (f h : ℕ → ℕ → ℕ) (r c v : ℕ) → r < 8 → c < 8 → h r c ≡ v
    → ((j : ℕ) → j ≢ c → h r j ≡ f r j) → ((i j : ℕ) → i ≢ r → h i j ≡ f i j)
    → table_of h ≡ with_number r c v (table_of f)
unfolding table_of
table_of-but_one f h r c v row column here in_row elsewhere =
    let changed : map (h r) (numbers_below 8) ≡ set (map (f r) (numbers_below 8)) c v =
    map_numbers-but_one (f r) (h r) v 0 8 c column (ap (h r) (omega arith) ∙ here) (λ j from below other. in_row j (omega arith)) in
    map_numbers-but_one (λ i. map (f i) (numbers_below 8)) (λ i. map (h i) (numbers_below 8)) (set (get_or (table_of f) r []) c v) 0 8 r row
    (ap (λ k. map (h k) (numbers_below 8)) (omega arith) ∙ changed ∙ ap (λ (xs : List ℕ). set xs c v) (sym (get_or-table_of f r row)))
    (λ i from below other. map_numbers-same (f i) (h i) 0 8 (λ j from below. elsewhere i j (omega arith)))

-- a table of zeros
pub table_of-zero : table_of (λ _ _. 0) ≡ replicate 8 (replicate 8 0)
unfolding table_of
table_of-zero = refl

-- the number of a pair in a table that is a function's
pub number_at-table : (table : List (List ℕ)) (number : ℕ → ℕ → ℕ) (i j : ℕ) → table ≡ table_of number → i < 8 → j < 8 → number_at table i j ≡ number i j
number_at-table table number i j is row column = ap (λ (t : List (List ℕ)). number_at t i j) is ∙ number_at-table_of number i j row column

-- a bit tells the truth value that it stands for
pub nat_eq-bit : (b : Bool) → nat_eq (cond b 1 0) 1 ≡ b
nat_eq-bit true = refl
nat_eq-bit false = refl
