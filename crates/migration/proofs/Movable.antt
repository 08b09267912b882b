-- The clusters that a thread may move to are among the first eight, and so are those that its aim needs.
use Rattle.std.proofs.Common.{◌≡◌, ◌≢◌, ◌≤◌, ◌<◌, ◌+◌, ◌-◌, ◌⊎◌, ◌&&◌, ◌||◌, ◌==◌, ◌++◌, ℕ, zero, suc, Bool, true, false, cond, All, List, [], ◌∷◌, Option, Some, None, is_none, find, filter, refl, sym, ap, arith, ◌∙◌, inl, inr}
use Rattle.std.specs.List.{list_any}
use Rattle.std.specs.Option.{option_map_or}
use Rattle.std.proofs.lemmas.Bool.{cases_Bool, cases_lt, false≢true}
use Rattle.std.proofs.lemmas.Bool.Decides.{nat_tests}
use Rattle.std.proofs.lemmas.List.{append-nil}
use Rattle.std.proofs.lemmas.List.Elements.{filter-append}
use Rattle.flat_policy.specs.declared.setup.EdgeSpec.{EdgeSpec}
use Rattle.flat_policy.specs.Policy.Aim.{Look, look_at, movable, needed_by}
use Rattle.flat_policy.proofs.Greatest.{filter_none}
use Rattle.migration.specs.Looks.{lacks_look}
use Rattle.migration.proofs.Scans.{find-filter}
use Rattle.flat_policy.specs.Policy.BuiltSetups.{IsEdge, IsSetup}
use Rattle.flat_policy.specs.Policy.Setup.{SetupParts, cluster_count, migrates, numbers_below, numbers_from}

-- an edge with other ends
other_from : (from to i j : ℕ) → from ≢ i → ((from == i) && (to == j)) ≡ false
other_from from to i j other = grind (arith, nat_tests)

other_to : (from to i j : ℕ) → to ≢ j → ((from == i) && (to == j)) ≡ false
other_to from to i j other = grind (arith, nat_tests)

past_edge : (count : ℕ) (e : EdgeSpec) (i j : ℕ) → IsEdge count e → (count ≤ j) ⊎ (count ≤ i) → ((e.from == i) && (e.to == j)) ≡ false
past_edge count e i j is (inl past) = let below = is.to_below in other_to e.from e.to i j (omega arith)
past_edge count e i j is (inr past) = let below = is.from_below in other_from e.from e.to i j (omega arith)

-- no edge leads past the clusters, and none leaves from there
no_edge : (count : ℕ) (es : List EdgeSpec) (i j : ℕ) → All (IsEdge count) es → (count ≤ j) ⊎ (count ≤ i)
    → find (λ (e : EdgeSpec). (e.from == i) && (e.to == j)) es ≡ None
no_edge count [] i j all past = refl
no_edge count (e ∷ es) i j all past =
    ap (λ (b : Bool). cond b (Some e) (find (λ (e : EdgeSpec). (e.from == i) && (e.to == j)) es)) (past_edge count e i j (all 0 e (omega arith)) past)
    ∙ no_edge count es i j (λ k d lt. all (suc k) d (omega arith)) past

pub no_migration : (setup : SetupParts) → IsSetup setup → (i j : ℕ) → (cluster_count setup ≤ j) ⊎ (cluster_count setup ≤ i) → migrates setup i j ≡ false
no_migration setup is i j past =
    ap (λ (o : Option EdgeSpec). option_map_or (λ (e : EdgeSpec). e.migrate) o false) (no_edge (cluster_count setup) setup.edges i j is.edges past)

-- a list of numbers in two parts
numbers_split : (first a b : ℕ) → numbers_from first (a + b) ≡ numbers_from first a ++ numbers_from (first + a) b
numbers_split first zero b = let e : first ≡ first + 0 = omega arith in let n : 0 + b ≡ b = omega arith in ap (λ (k : ℕ). numbers_from first k) n ∙ ap (λ (k : ℕ). numbers_from k b) e
numbers_split first (suc a) b =
    let n : suc a + b ≡ suc (a + b) = omega arith in
    let e : suc first + a ≡ first + suc a = omega arith in
    ap (λ (k : ℕ). numbers_from first k) n ∙ ap (λ (xs : List ℕ). first ∷ xs) (numbers_split (suc first) a b)
    ∙ ap (λ (k : ℕ). first ∷ (numbers_from (suc first) a ++ numbers_from k b)) e

-- a filter that keeps none from a number on
filter-none : (p : ℕ → Bool) (first n : ℕ) → ((c : ℕ) → first ≤ c → p c ≡ false) → filter p (numbers_from first n) ≡ []
filter-none p first zero none = refl
filter-none p first (suc n) none =
    ap (λ (b : Bool). cond b (first ∷ filter p (numbers_from (suc first) n)) (filter p (numbers_from (suc first) n))) (none first (omega arith))
    ∙ filter-none p (suc first) n (λ c le. none c (omega arith))

-- a filter that keeps none past a count
filter-eight : (p : ℕ → Bool) (count : ℕ) → count ≤ 8 → ((c : ℕ) → count ≤ c → p c ≡ false) → filter p (numbers_below 8) ≡ filter p (numbers_below count)
filter-eight p count few none =
    let n : 8 ≡ count + (8 - count) = omega arith in
    ap (λ (k : ℕ). filter p (numbers_below k)) n
    ∙ ap (filter p) (numbers_split 0 count (8 - count))
    ∙ filter-append p (numbers_below count) (numbers_from (0 + count) (8 - count))
    ∙ ap (λ (xs : List ℕ). filter p (numbers_below count) ++ xs) (filter-none p (0 + count) (8 - count) (λ c le. none c (omega arith)))
    ∙ append-nil (filter p (numbers_below count))

pub movable_eight : (setup : SetupParts) → IsSetup setup → (prefer : ℕ) → filter (migrates setup prefer) (numbers_below 8) ≡ movable setup prefer
movable_eight setup is prefer = filter-eight (migrates setup prefer) (cluster_count setup) is.clusters_most (λ c le. no_migration setup is prefer c (inl le))

-- the clusters that an aim needs, once it needs any
needed_eight : (setup : SetupParts) → IsSetup setup → (prefer : ℕ) → prefer < cluster_count setup
    → filter (λ c. (c == prefer) || migrates setup prefer c) (numbers_below 8) ≡ filter (λ c. (c == prefer) || migrates setup prefer c) (numbers_below (cluster_count setup))
needed_eight setup is prefer below =
    filter-eight (λ c. (c == prefer) || migrates setup prefer c) (cluster_count setup) is.clusters_most
    (λ c le. let other : c ≢ prefer = omega arith in
    let apart : (c == prefer) ≡ false = grind (arith, nat_tests) in
    ap (λ (b : Bool). b || migrates setup prefer c) apart ∙ no_migration setup is prefer c (inl le))

-- what an aim needs where some number passes
needed_of_some : (setup : SetupParts) (prefer : ℕ) (p : ℕ → Bool) (xs : List ℕ) → list_any p xs ≡ true
    → needed_by setup prefer (filter p xs) ≡ filter (λ c. (c == prefer) || migrates setup prefer c) (numbers_below (cluster_count setup))
needed_of_some setup prefer p [] some = absurd (false≢true some)
needed_of_some setup prefer p (x ∷ xs) some =
    elim (cases_Bool (p x)) [
      | inl is ↦ ap (λ (b : Bool). needed_by setup prefer (cond b (x ∷ filter p xs) (filter p xs))) is
      | inr is ↦ ap (λ (b : Bool). needed_by setup prefer (cond b (x ∷ filter p xs) (filter p xs))) is
          ∙ needed_of_some setup prefer p xs (sym (ap (λ (b : Bool). b || list_any p xs) is) ∙ some)
    ]

-- a test that none passes from a number on
any-none : (p : ℕ → Bool) (first n : ℕ) → ((c : ℕ) → first ≤ c → p c ≡ false) → list_any p (numbers_from first n) ≡ false
any-none p first zero none = refl
any-none p first (suc n) none =
    ap (λ (b : Bool). b || list_any p (numbers_from (suc first) n)) (none first (omega arith)) ∙ any-none p (suc first) n (λ c le. none c (omega arith))

-- a cluster that threads may leave is one of the setup's
prefer_below : (setup : SetupParts) → IsSetup setup → (prefer : ℕ) → list_any (migrates setup prefer) (numbers_below 8) ≡ true → prefer < cluster_count setup
prefer_below setup is prefer some =
    elim (cases_lt prefer (cluster_count setup)) [
      | inl below ↦ below
      | inr past ↦ absurd (false≢true (sym (any-none (migrates setup prefer) 0 8 (λ c le. no_migration setup is prefer c (inr past))) ∙ some))
    ]

-- the lowest look that is missing: none where threads may not move
pub missing_none : (setup : SetupParts) → IsSetup setup → (looks : List (Option Look)) (prefer : ℕ) → list_any (migrates setup prefer) (numbers_below 8) ≡ false
    → find (λ c. is_none (look_at looks c)) (needed_by setup prefer (movable setup prefer)) ≡ None
missing_none setup is looks prefer none =
    ap (λ (js : List ℕ). find (λ c. is_none (look_at looks c)) (needed_by setup prefer js))
    (sym (movable_eight setup is prefer) ∙ filter_none (migrates setup prefer) (numbers_below 8) none)

-- and otherwise the first by a scan
pub missing_some : (setup : SetupParts) → IsSetup setup → (looks : List (Option Look)) (prefer : ℕ) → list_any (migrates setup prefer) (numbers_below 8) ≡ true
    → find (λ c. is_none (look_at looks c)) (needed_by setup prefer (movable setup prefer)) ≡ find (lacks_look setup looks prefer) (numbers_below 8)
missing_some setup is looks prefer some =
    ap (λ (js : List ℕ). find (λ c. is_none (look_at looks c)) (needed_by setup prefer js)) (sym (movable_eight setup is prefer))
    ∙ ap (find (λ c. is_none (look_at looks c)))
    (needed_of_some setup prefer (migrates setup prefer) (numbers_below 8) some ∙ sym (needed_eight setup is prefer (prefer_below setup is prefer some)))
    ∙ find-filter (λ c. (c == prefer) || migrates setup prefer c) (λ c. is_none (look_at looks c)) (numbers_below 8)
