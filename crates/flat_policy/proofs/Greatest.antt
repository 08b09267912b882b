-- The greatest of some numbers, and the priority of a lane.
use Rattle.std.proofs.Common.{◌≡◌, ℕ, ◌≤◌, ◌<◌, max, Bool, true, false, cond, Contains, List, [], ◌∷◌, filter, fold, map, is_some, refl, ap, ◌∙◌, subst, inl, inr, arith}
use Rattle.std.specs.List.{list_any}
use Rattle.std.proofs.lemmas.Bool.{cond-false, or_parts}
use Rattle.sched_base.specs.declared.Bucket.{Bucket}
use Rattle.sched_base.specs.declared.Bucket.TheVariants.{Ui}
use Rattle.flat_policy.specs.Policy.Precedence.{bound_priority, clutch_priority, greatest, unit_priority, greatest_pri}
use Rattle.flat_policy.specs.Policy.Queue.{Clutch, Flat, Queued, clutch_entries, clutch_of, has_entries, in_lane, lane, lane_entries, spans_of}
use Rattle.flat_policy.specs.Policy.Usage.{score}
use Rattle.flat_policy.specs.Policy.Windows.{lane_priority}
use Rattle.flat_policy.proofs.Buckets.{in_lane_is}
use Rattle.flat_policy.proofs.Members.{contains_cases, contains_none, member_from_any, filter_has}

-- a test that none passes keeps none
pub filter_none : {X : Type 0} (p : X → Bool) (xs : List X) → list_any p xs ≡ false → filter p xs ≡ []
filter_none p [] h = refl
filter_none p (x ∷ xs) h =
    let parts = or_parts (p x) (list_any p xs) h in
    cond-false (p x) (x ∷ filter p xs) (filter p xs) parts.0 ∙ filter_none p xs parts.1

fold_max_from : (a : ℕ) (xs : List ℕ) → a ≤ fold max a xs
fold_max_from a [] = omega arith
fold_max_from a (x ∷ xs) = omega (arith, fold_max_from (max a x) xs)

pub greatest_at_least : {X : Type 0} (f : X → ℕ) (a : ℕ) (xs : List X) (x : X) → Contains xs x → f x ≤ fold max a (map f xs)
greatest_at_least f a [] x c = absurd (contains_none x c)
greatest_at_least f a (y ∷ ys) x c =
    elim (contains_cases y ys x c) [
      | inl is ↦ subst (λ z. f z ≤ fold max (max a (f y)) (map f ys)) is (omega (arith, fold_max_from (max a (f y)) (map f ys)))
      | inr d ↦ greatest_at_least f (max a (f y)) ys x d
    ]

pub empty_lane_priority : (s : Flat) (bound : Bool) (b : Bucket) → has_entries s (lane b bound) ≡ false → lane_priority s (lane b bound) ≡ 0
empty_lane_priority s bound b h =
    ap (λ es. greatest (map (λ (e : Queued). unit_priority s e.facts) es)) (filter_none (in_lane (lane b bound)) s.entries h)

-- an unbound unit of UI has a priority above 0
ui_unit_priority : (s : Flat) (e : Queued) → in_lane (lane Ui false) e ≡ true → 0 < unit_priority s e.facts
ui_unit_priority s e h =
    let is = in_lane_is (lane Ui false) e h in
    let unbound : is_some e.facts.bound ≡ false = ap (λ l. l.bound) is in
    let ui : e.facts.bucket ≡ Ui = ap (λ l. l.bucket) is in
    let k : Clutch = clutch_of e.facts in
    let n : ℕ = greatest_pri (clutch_entries s k) in
    let sixteen : score (spans_of s k).used (spans_of s k).blocked e.facts.bucket ≡ 16 =
    ap (λ (b : Bucket). score (spans_of s k).used (spans_of s k).blocked b) ui in
    let same : unit_priority s e.facts ≡ clutch_priority s k = ap (λ t. cond t (bound_priority s e.facts.bucket) (clutch_priority s k)) unbound in
    omega (arith, same, sixteen)

pub ui_lane_priority : (s : Flat) → has_entries s (lane Ui false) ≡ true → 0 < lane_priority s (lane Ui false)
ui_lane_priority s h =
    let m = member_from_any (in_lane (lane Ui false)) s.entries h in
    let above = ui_unit_priority s m.0 m.2 in
    let least = greatest_at_least (λ (e : Queued). unit_priority s e.facts) 0 (lane_entries s (lane Ui false)) m.0
    (filter_has (in_lane (lane Ui false)) s.entries m.0 m.1 m.2) in
    omega (arith, above, least)
