-- Lists of what a function makes of the numbers from one on.
use Rattle.std.proofs.Common.{◌≡◌, ◌≢◌, ◌≤◌, ◌<◌, ◌+◌, ℕ, zero, suc, map, get_or, set, refl, ap, arith, ◌∙◌}
use Rattle.flat_policy.specs.Policy.Setup.{numbers_from}

-- each by its place
pub get_or-map_numbers : {A : Type 0} (f : ℕ → A) (first n k : ℕ) (d : A) → k < n → get_or (map f (numbers_from first n)) k d ≡ f (first + k)
get_or-map_numbers f first zero k d lt = absurd (omega arith)
get_or-map_numbers f first (suc n) zero d lt = ap f (omega arith)
get_or-map_numbers f first (suc n) (suc k) d lt = get_or-map_numbers f (suc first) n k d (omega arith) ∙ ap f (omega arith)

-- two functions that agree on them
pub map_numbers-same : {A : Type 0} (f h : ℕ → A) (first n : ℕ)
    → ((j : ℕ) → first ≤ j → j < first + n → h j ≡ f j) → map h (numbers_from first n) ≡ map f (numbers_from first n)
map_numbers-same f h first zero same = refl
map_numbers-same f h first (suc n) same =
    let here : h first ≡ f first = same first (omega arith) (omega arith) in
    let rest : map h (numbers_from (suc first) n) ≡ map f (numbers_from (suc first) n) =
    map_numbers-same f h (suc first) n (λ j from below. same j (omega arith) (omega arith)) in
    cc

-- two functions that agree on all of them but one
pub map_numbers-but_one : {A : Type 0} (f h : ℕ → A) (v : A) (first n k : ℕ) → k < n → h (first + k) ≡ v
    → ((j : ℕ) → first ≤ j → j < first + n → j ≢ first + k → h j ≡ f j)
    → map h (numbers_from first n) ≡ set (map f (numbers_from first n)) k v
map_numbers-but_one f h v first zero k lt here others = absurd (omega arith)
map_numbers-but_one f h v first (suc n) zero lt here others =
    let at : h first ≡ v = ap h (omega arith) ∙ here in
    let rest : map h (numbers_from (suc first) n) ≡ map f (numbers_from (suc first) n) =
    map_numbers-same f h (suc first) n (λ j from below. others j (omega arith) (omega arith) (omega arith)) in
    cc
map_numbers-but_one f h v first (suc n) (suc k) lt here others =
    let at : h first ≡ f first = others first (omega arith) (omega arith) (omega arith) in
    let rest : map h (numbers_from (suc first) n) ≡ set (map f (numbers_from (suc first) n)) k v =
    map_numbers-but_one f h v (suc first) n k (omega arith) (ap h (omega arith) ∙ here)
    (λ j from below other. others j (omega arith) (omega arith) (omega arith)) in
    cc
