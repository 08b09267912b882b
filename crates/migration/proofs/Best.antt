-- The best target by one pass over the clusters.
use Rattle.std.proofs.Common.{◌≡◌, ℕ, Bool, true, false, cond, List, [], ◌∷◌, Option, Some, None, filter, fold, refl, sym, ap, ◌∙◌}
use Rattle.std.specs.List.{cons_option, filter_map}
use Rattle.flat_policy.specs.Policy.Aim.{Look, Target, lighter, look_at, target_at, targets}
use Rattle.flat_policy.specs.Policy.BuiltSetups.{IsSetup}
use Rattle.flat_policy.specs.Laws.Choice.{better}
use Rattle.flat_policy.specs.Policy.Setup.{SetupParts, migrates, numbers_below}
use Rattle.flat_policy.specs.Policy.Unpreceded.{unpreceded}
use Rattle.flat_policy.proofs.Choice.{chooses_one}
use Rattle.flat_policy.proofs.Orders.{targets_in_order}
use Rattle.migration.specs.Looks.{best_among, candidate_at, is_below, with_candidate, within}
use Rattle.migration.proofs.Movable.{movable_eight}

-- a target that is kept or not, before others
kept_first : (c : Bool) (x : Target) (best : Option Target) (xs : List Target)
    → fold (better lighter) (with_candidate best (cond c (Some x) None)) xs ≡ fold (better lighter) best (cond c (x ∷ xs) xs)
kept_first true x best xs = refl
kept_first false x best xs = refl

-- a cluster that gives a target or not, before others
cluster_first : (most : Option ℕ) (b : Bool) (o : Option Target) (best : Option Target) (xs : List Target)
    → fold (better lighter) (with_candidate best (cond b (within most o) None)) (filter (λ (x : Target). is_below most x.weighed) xs)
    ≡ fold (better lighter) best (filter (λ (x : Target). is_below most x.weighed) (cond b (cons_option o xs) xs))
cluster_first most false o best xs = refl
cluster_first most true None best xs = refl
cluster_first most true (Some x) best xs = kept_first (is_below most x.weighed) x best (filter (λ (x : Target). is_below most x.weighed) xs)

pub filter_map-cond : (f : ℕ → Option Target) (b : Bool) (c : ℕ) (cs : List ℕ) → filter_map f (cond b (c ∷ cs) cs) ≡ cond b (cons_option (f c) (filter_map f cs)) (filter_map f cs)
filter_map-cond f true c cs = refl
filter_map-cond f false c cs = refl

-- one pass over clusters is one pass over the targets among them
best_among-targets : (setup : SetupParts) (looks : List (Option Look)) (prefer : ℕ) (most : Option ℕ) (best : Option Target) (cs : List ℕ)
    → best_among setup looks prefer most best cs
    ≡ fold (better lighter) best (filter (λ (x : Target). is_below most x.weighed) (filter_map (λ c. target_at setup prefer c (look_at looks c)) (filter (migrates setup prefer) cs)))
best_among-targets setup looks prefer most best [] = refl
best_among-targets setup looks prefer most best (c ∷ cs) =
    let f : ℕ → Option Target = λ c. target_at setup prefer c (look_at looks c) in
    best_among-targets setup looks prefer most (with_candidate best (candidate_at setup looks prefer most c)) cs
    ∙ cluster_first most (migrates setup prefer c) (f c) best (filter_map f (filter (migrates setup prefer) cs))
    ∙ ap (λ (xs : List Target). fold (better lighter) best (filter (λ (x : Target). is_below most x.weighed) xs))
    (sym (filter_map-cond f (migrates setup prefer c) c (filter (migrates setup prefer) cs)))

-- the best of all is the one that no other precedes
pub best_is_unpreceded : (setup : SetupParts) → IsSetup setup → (looks : List (Option Look)) (prefer : ℕ) (most : Option ℕ)
    → best_among setup looks prefer most None (numbers_below 8) ≡ unpreceded lighter (filter (λ (x : Target). is_below most x.weighed) (targets setup looks prefer))
best_is_unpreceded setup is looks prefer most =
    best_among-targets setup looks prefer most None (numbers_below 8)
    ∙ ap (λ (cs : List ℕ). fold (better lighter) None (filter (λ (x : Target). is_below most x.weighed) (filter_map (λ c. target_at setup prefer c (look_at looks c)) cs)))
    (movable_eight setup is prefer)
    ∙ (chooses_one lighter (filter (λ (x : Target). is_below most x.weighed) (targets setup looks prefer))
    (targets_in_order (filter (λ (x : Target). is_below most x.weighed) (targets setup looks prefer)))).by_scan

-- a filter that keeps all
pub filter-all : (xs : List Target) → filter (λ _. true) xs ≡ xs
filter-all [] = refl
filter-all (x ∷ xs) = ap (λ (ys : List Target). x ∷ ys) (filter-all xs)
