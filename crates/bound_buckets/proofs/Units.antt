-- The greatest unit priority of a lane, by its units and by its entries.
use Rattle.std.proofs.Common.{◌≡◌, ℕ, ◌+◌, max, Bool, true, false, ◌||◌, cond, List, [], ◌∷◌, filter, fold, map, Option, None, Some, is_some, refl, sym, ap, ◌∙◌, arith}
use Rattle.std.specs.List.{list_any}
use Rattle.std.proofs.lemmas.Bool.{and_from}
use Rattle.sched_base.specs.declared.buckets.Bucket.{Bucket}
use Rattle.bucket_tables.specs.declared.Lane.{Lane}
use Rattle.flat_policy.specs.Laws.Units.{IsFirstClutch, LanePrioritiesAreOfUnits, LanePriorityByEntries, unit_score}
use Rattle.flat_policy.specs.Policy.Queue.{Clutch, Flat, Queued, has_entries, in_clutch, in_lane, lane, same_bucket, same_flag}
use Rattle.flat_policy.specs.Policy.Windows.{lane_priority}
use Rattle.flat_policy.proofs.Buckets.{in_clutch_parts, same_bucket_itself}
use Rattle.flat_policy.proofs.Members.{any_from_member, member_from_any}
use Rattle.bound_buckets.specs.Tops.{greater_of, top_of}
use Rattle.bound_buckets.specs.Units.{TopsAreOfUnits, TopsInOnePass}

-- a lane with entries of a clutch bucket of its bucket has entries
clutch_in_lane : (s : Flat) (b : Bucket) (k : Clutch) → IsFirstClutch s (lane b false) k → has_entries s (lane b false) ≡ true
clutch_in_lane s b k first =
    let m = member_from_any (in_clutch k) s.entries first.filled in
    let parts = in_clutch_parts k m.0 m.2 in
    let bucket : m.0.facts.bucket ≡ b = ap (λ (c : Clutch). c.bucket) parts.1 ∙ first.bucket in
    any_from_member (in_lane (lane b false)) s.entries m.0 m.1
    (and_from (same_bucket m.0.facts.bucket b) (same_flag (is_some m.0.facts.bound) false)
    (ap (λ c. same_bucket c b) bucket ∙ same_bucket_itself b)
    (ap (λ f. same_flag f false) parts.0))

filled_top : (s : Flat) (l : Lane) (n : ℕ) → has_entries s l ≡ true → lane_priority s l ≡ n → top_of s l ≡ Some n
filled_top s l n has is = ap (λ b. cond b (Some (lane_priority s l)) None) has ∙ ap (λ m. Some m) is

pub of_units : LanePrioritiesAreOfUnits → TopsAreOfUnits
of_units law groups s well =
    let by = law groups s well in
    record {
      bound = λ b has. filled_top s (lane b true) _ has (by.bound b has);
      unbound = λ b k first. filled_top s (lane b false) _ (clutch_in_lane s b k first) (by.unbound b k first);
      empty = λ l none. ap (λ b. cond b (Some (lane_priority s l)) None) none;
    }

-- the pass from one that was found, and from none
abbrev pass_with : {X : Type 0} → (X → Bool) → (X → ℕ) → Option ℕ → X → Option ℕ
pass_with p f top x = cond (p x) (greater_of top (Some (f x))) top

pass_from : {X : Type 0} (p : X → Bool) (f : X → ℕ) (a : ℕ) (xs : List X) → fold (pass_with p f) (Some a) xs ≡ Some (fold max a (map f (filter p xs)))
pass_from p f a [] = refl
pass_from p f a (x ∷ xs) =
    elim (p x) as (λ b. fold (pass_with p f) (cond b (Some (max a (f x))) (Some a)) xs ≡ Some (fold max a (map f (cond b (x ∷ filter p xs) (filter p xs))))) [
      | true ↦ pass_from p f (max a (f x)) xs
      | false ↦ pass_from p f a xs
    ]

pass_all : {X : Type 0} (p : X → Bool) (f : X → ℕ) (xs : List X) → fold (pass_with p f) None xs ≡ cond (list_any p xs) (Some (fold max 0 (map f (filter p xs)))) None
pass_all p f [] = refl
pass_all p f (x ∷ xs) =
    elim (p x) as (λ b. fold (pass_with p f) (cond b (Some (f x)) None) xs ≡ cond (b || list_any p xs) (Some (fold max 0 (map f (cond b (x ∷ filter p xs) (filter p xs))))) None) [
      | true ↦ pass_from p f (f x) xs ∙ ap (λ n. Some (fold max n (map f (filter p xs)))) (least (f x))
      | false ↦ pass_all p f xs
    ]
  where
    least : (n : ℕ) → n ≡ max 0 n
    least n = omega arith

pub in_one_pass : LanePriorityByEntries → TopsInOnePass
in_one_pass law s l =
    pass_all (in_lane l) (λ (e : Queued). e.pri + unit_score s e.facts) s.entries
    ∙ ap (λ n. cond (has_entries s l) (Some n) None) (sym (law s l))
