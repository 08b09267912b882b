-- The greatest unit priority of a lane: 0 where it is empty, and at least 16 where it is a filled lane of UI.
use Rattle.std.proofs.Common.{◌≡◌, ℕ, ◌≤◌, max, Bool, true, false, ◌||◌, cond, List, [], ◌∷◌, filter, fold, map, is_some, refl, ap, ◌∙◌, arith, eqb-true}
use Rattle.std.specs.List.{list_any}
use Rattle.std.proofs.lemmas.Bool.{and_parts, false≢true, or_parts}
use Rattle.sched_base.specs.Bucket.{index}
use Rattle.sched_base.specs.declared.buckets.Bucket.{Bucket}
use Rattle.sched_base.specs.declared.buckets.Bucket.TheVariants.{Bg, Df, Fg, Ini, Ui, Ut}
use Rattle.sched_base.specs.declared.facts.Facts.{Facts}
use Rattle.bucket_tables.specs.declared.Lane.{Lane}
use Rattle.flat_policy.specs.Policy.Precedence.{bound_priority, clutch_priority, greatest, unit_priority}
use Rattle.flat_policy.specs.Policy.Queue.{Flat, Queued, clutch_of, has_entries, in_lane, lane, same_bucket, same_flag, spans_of}
use Rattle.flat_policy.specs.Policy.Usage.{bound_score, score}
use Rattle.flat_policy.specs.Policy.Windows.{lane_priority}

none_pass : {X : Type 0} (p : X → Bool) (xs : List X) → list_any p xs ≡ false → filter p xs ≡ []
none_pass p [] h = refl
none_pass p (x ∷ xs) h =
    let parts = or_parts (p x) (list_any p xs) h in
    ap (λ b. cond b (x ∷ filter p xs) (filter p xs)) parts.0 ∙ none_pass p xs parts.1

-- an empty lane has 0
pub empty_is_zero : (s : Flat) (l : Lane) → has_entries s l ≡ false → lane_priority s l ≡ 0
empty_is_zero s l h = ap (λ es. greatest (map (λ (e : Queued). unit_priority s e.facts) es)) (none_pass (in_lane l) s.entries h)

fold_above : (a : ℕ) (xs : List ℕ) → a ≤ fold max a xs
fold_above a [] = omega arith
fold_above a (x ∷ xs) = omega (arith, fold_above (max a x) xs)

-- where what passes has at least n and something passes, the greatest has at least n
some_pass : {X : Type 0} (n : ℕ) (p : X → Bool) (f : X → ℕ) → ((x : X) → p x ≡ true → n ≤ f x)
    → (a : ℕ) (xs : List X) → list_any p xs ≡ true → n ≤ fold max a (map f (filter p xs))
some_pass n p f each a [] h = absurd (false≢true h)
some_pass n p f each a (x ∷ xs) h =
    one_more (p x) refl h (some_pass n p f each a xs)
  where
    one_more : (b : Bool) → p x ≡ b → (b || list_any p xs) ≡ true → (list_any p xs ≡ true → n ≤ fold max a (map f (filter p xs)))
        → n ≤ fold max a (map f (cond b (x ∷ filter p xs) (filter p xs)))
    one_more true is k later = omega (arith, each x is, fold_above (max a (f x)) (map f (filter p xs)))
    one_more false is k later = later k

bucket_zero : (b : Bucket) → index b ≡ 0 → b ≡ Ui
bucket_zero Ui h = refl
bucket_zero Fg h = absurd (omega arith)
bucket_zero Ini h = absurd (omega arith)
bucket_zero Df h = absurd (omega arith)
bucket_zero Ut h = absurd (omega arith)
bucket_zero Bg h = absurd (omega arith)

-- the score of a UI unit is 16
ui_unit : (s : Flat) (t : Facts) → t.bucket ≡ Ui → 16 ≤ unit_priority s t
ui_unit s t is =
    elim (is_some t.bound) as (λ b. 16 ≤ cond b (bound_priority s t.bucket) (clutch_priority s (clutch_of t))) [
      | true ↦ omega (arith, ap bound_score is)
      | false ↦ omega (arith, ap (λ k. score (spans_of s (clutch_of t)).used (spans_of s (clutch_of t)).blocked k) is)
    ]

pub ui_has_sixteen : (s : Flat) (bound : Bool) → has_entries s (lane Ui bound) ≡ true → 16 ≤ lane_priority s (lane Ui bound)
ui_has_sixteen s bound h =
    some_pass 16 (in_lane (lane Ui bound)) (λ (e : Queued). unit_priority s e.facts)
    (λ e is. ui_unit s e.facts (bucket_zero e.facts.bucket
    (eqb-true (index e.facts.bucket) 0 (and_parts (same_bucket e.facts.bucket Ui) (same_flag (is_some e.facts.bound) bound) is).0)))
    0 s.entries h
