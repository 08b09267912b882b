-- Which lanes have entries, as entries come and go.
use Rattle.std.proofs.Common.{◌≡◌, ℕ, Bool, true, false, ◌&&◌, ◌||◌, ◌==◌, cond, Contains, List, refl, sym, ap, ap₂, ◌∙◌, inl, inr, arith, is_some}
use Rattle.std.specs.List.{list_any}
use Rattle.std.proofs.lemmas.Bool.{cases_Bool, cond-false, cond-true}
use Rattle.std.proofs.lemmas.List.Folds.{list_any_at}
use Rattle.sched_base.specs.Bucket.{index}
use Rattle.bucket_tables.specs.declared.Lane.{Lane}
use Rattle.flat_policy.specs.Policy.Queue.{Queued, in_lane, lane_of, same_flag, same_lane}
use Rattle.cluster_queue.proofs.FilledLanes.{same_lane_is}
use Rattle.cluster_queue.proofs.Buckets.{in_lane_from}

eqb_turned : (a b : ℕ) → (a == b) ≡ (b == a)
eqb_turned a b = grind arith

flag_turned : (a b : Bool) → same_flag a b ≡ same_flag b a
flag_turned true true = refl
flag_turned true false = refl
flag_turned false true = refl
flag_turned false false = refl

pub lane_turned : (x y : Lane) → same_lane x y ≡ same_lane y x
lane_turned x y = ap₂ (λ (a b : Bool). a && b) (eqb_turned (index x.bucket) (index y.bucket)) (flag_turned x.bound y.bound)

pub or_as_cond : (a b : Bool) → (a || b) ≡ cond b true a
or_as_cond true true = refl
or_as_cond true false = refl
or_as_cond false true = refl
or_as_cond false false = refl

-- the lane of an entry has it
pub entry_there : (es : List Queued) (e : Queued) → Contains es e → list_any (in_lane (lane_of e.facts)) es ≡ true
entry_there es e (k, within, is) = list_any_at (in_lane (lane_of e.facts)) es k e within (ap (in_lane (lane_of e.facts)) is ∙ in_lane_from e.facts.bucket (is_some e.facts.bound) e refl refl)

-- a test of lanes that stays but at one lane
pub test_by_lane : (before later : Lane → Bool) (at : Lane) → ((l : Lane) → same_lane at l ≡ false → later l ≡ before l) → (l : Lane) → later l ≡ cond (same_lane l at) (later at) (before l)
test_by_lane before later at others l =
    elim (cases_Bool (same_lane l at)) [
      | inl same ↦ ap later (same_lane_is l at same) ∙ sym (cond-true (same_lane l at) (later at) (before l) same)
      | inr other ↦ others l (lane_turned at l ∙ other) ∙ sym (cond-false (same_lane l at) (later at) (before l) other)
    ]
