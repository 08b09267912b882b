-- How many priorities a refresh changes: as many as it changes in the lanes of the five buckets below UI.
use Rattle.std.proofs.Common.{◌≡◌, ℕ, ◌+◌, ◌==◌, ◌&&◌, Bool, true, false, not, cond, List, [], ◌∷◌, filter, is_some, refl, sym, ap, ◌∙◌, inl, inr, arith, eq-eqb}
use Rattle.std.specs.List.{sum_by}
use Rattle.std.specs.Prelude.{count_by}
use Rattle.std.proofs.lemmas.Bool.{cases_Bool, cond-false, cond-true}
use Rattle.sched_base.specs.declared.Bucket.{Bucket}
use Rattle.sched_base.specs.declared.Bucket.TheVariants.{Bg, Df, Fg, Ini, Ui, Ut}
use Rattle.flat_policy.specs.Policy.Queue.{Flat, Queued, in_lane, lane, same_bucket, same_flag}
use Rattle.flat_policy.specs.Policy.Refresh.{repriced_count}
use Rattle.cluster_queue.specs.PricingAll.{priced_buckets}
use Rattle.cluster_queue.specs.Refreshing.{changed_in_bucket, is_changed}
use Rattle.cluster_queue.proofs.PricesDone.{ui_stays}
use Rattle.cluster_queue.proofs.Passing.{count_cons, mark}

-- a number where a test passes
abbrev counted : Bool → ℕ → ℕ
counted b n = cond b n 0

-- an entry stands in one lane, and counts there only
count_kept : (f p : Queued → Bool) (e : Queued) (es : List Queued) → count_by f (filter p (e ∷ es)) ≡ counted (p e) (mark (f e)) + count_by f (filter p es)
count_kept f p e es =
    elim (cases_Bool (p e)) [
      | inl h ↦ (
          let kept = ap (count_by f) (cond-true (p e) (e ∷ filter p es) (filter p es) h) in
          let here = cond-true (p e) (mark (f e)) 0 h in
          omega (arith, kept, here, count_cons f e (filter p es)))
      | inr h ↦ (
          let kept = ap (count_by f) (cond-false (p e) (e ∷ filter p es) (filter p es) h) in
          let here = cond-false (p e) (mark (f e)) 0 h in
          omega (arith, kept, here))
    ]

-- how many pass in the two lanes of a bucket
abbrev in_bucket : (Queued → Bool) → List Queued → Bucket → ℕ
in_bucket f es b = count_by f (filter (in_lane (lane b false)) es) + count_by f (filter (in_lane (lane b true)) es)

-- what one entry of a bucket, bound or not, counts for another bucket
abbrev counts_for : Bucket → Bool → ℕ → Bucket → ℕ
counts_for own bound n b = counted (same_bucket own b && same_flag bound false) n + counted (same_bucket own b && same_flag bound true) n

in_bucket_cons : (f : Queued → Bool) (e : Queued) (es : List Queued) (b : Bucket) → in_bucket f (e ∷ es) b ≡ counts_for e.facts.bucket (is_some e.facts.bound) (mark (f e)) b + in_bucket f es b
in_bucket_cons f e es b = omega (arith, count_kept f (in_lane (lane b false)) e es, count_kept f (in_lane (lane b true)) e es)

counts_once : (own : Bucket) (bound : Bool) (n : ℕ) → (own ≡ Ui → n ≡ 0) → sum_by (counts_for own bound n) priced_buckets ≡ n
counts_once Ui bound n h = omega (arith, h refl)
counts_once Fg true n h = omega arith
counts_once Fg false n h = omega arith
counts_once Ini true n h = omega arith
counts_once Ini false n h = omega arith
counts_once Df true n h = omega arith
counts_once Df false n h = omega arith
counts_once Ut true n h = omega arith
counts_once Ut false n h = omega arith
counts_once Bg true n h = omega arith
counts_once Bg false n h = omega arith

count_by_lanes : (f : Queued → Bool) → ((e : Queued) → e.facts.bucket ≡ Ui → f e ≡ false) → (es : List Queued) → count_by f es ≡ sum_by (in_bucket f es) priced_buckets
count_by_lanes f none [] = refl
count_by_lanes f none (e ∷ es) =
    let rest = count_by_lanes f none es in
    let first = count_cons f e es in
    let once = counts_once e.facts.bucket (is_some e.facts.bound) (mark (f e)) (λ u. ap mark (none e u)) in
    omega (arith, rest, first, once, in_bucket_cons f e es Fg, in_bucket_cons f e es Ini, in_bucket_cons f e es Df, in_bucket_cons f e es Ut, in_bucket_cons f e es Bg)

ui_unchanged : (s : Flat) (now : ℕ) (e : Queued) → e.facts.bucket ≡ Ui → is_changed s now e ≡ false
ui_unchanged s now e u = ap (λ (q : Queued). not (q.pri == e.pri)) (ui_stays s now e u) ∙ ap not (eq-eqb e.pri e.pri refl)

pub changed_by_lanes : (s : Flat) (now : ℕ) → sum_by (changed_in_bucket s now) priced_buckets ≡ repriced_count s now
changed_by_lanes s now = sym (count_by_lanes (is_changed s now) (ui_unchanged s now) s.entries)
