-- The greatest number of a lane, in one pass.
use Rattle.std.proofs.Common.{◌≡◌, ℕ, ◌==◌, max, not, Bool, cond, List, [], ◌∷◌, filter, fold, length, map, Option, Some, None, refl, sym, ap, ap₂, ◌∙◌, arith}
use Rattle.std.proofs.lemmas.Bool.{cond-true, ne_eqb}
use Rattle.bucket_tables.specs.declared.Lane.{Lane}
use Rattle.bound_buckets.specs.Tops.{top_of}
use Rattle.flat_policy.specs.Laws.Units.{LanePriorityByEntries, scored}
use Rattle.flat_policy.specs.Policy.Precedence.{greatest}
use Rattle.flat_policy.specs.Policy.Queue.{Flat, in_lane, lane_entries}
use Rattle.plain_cluster.specs.Entries.{higher}
use Rattle.plain_cluster.proofs.Counted.{any_passes}

-- the highest so far with one more
abbrev pub higher_with : {X : Type 0} → (X → ℕ) → Option ℕ → X → Option ℕ
higher_with f top x = higher top (f x)

higher_on : {X : Type 0} (f : X → ℕ) (n : ℕ) (xs : List X) → fold (higher_with f) (Some n) xs ≡ Some (fold max n (map f xs))
higher_on f n [] = refl
higher_on f n (x ∷ xs) = higher_on f (max n (f x)) xs

max_zero : (n : ℕ) → max 0 n ≡ n
max_zero n = omega arith

highest : {X : Type 0} (f : X → ℕ) (xs : List X) → fold (higher_with f) None xs ≡ cond (not (length xs == 0)) (Some (greatest (map f xs))) None
highest f [] = refl
highest f (x ∷ xs) =
    higher_on f (f x) xs
    ∙ (ap (λ n. Some (fold max n (map f xs))) (sym (max_zero (f x)))
    ∙ sym (cond-true (not (length (x ∷ xs) == 0)) (Some (greatest (map f (x ∷ xs)))) None (ap not (ne_eqb (length (x ∷ xs)) 0 (omega arith)))))

pub top_is : LanePriorityByEntries → (s : Flat) (at : Lane) → fold (higher_with (scored s)) None (filter (in_lane at) s.entries) ≡ top_of s at
top_is law s at =
    highest (scored s) (lane_entries s at)
    ∙ ap₂ (λ (b : Bool) (n : ℕ). cond b (Some n) None) (sym (any_passes (in_lane at) s.entries)) (sym (law s at))
