-- The flags and windows of the timeshare lanes where a lane is filled or emptied.
use Rattle.std.proofs.Common.{◌≡◌, ℕ, Bool, true, false, cond, List, [], ◌∷◌, length, map, refl, sym, ap, ap₂, ◌∙◌, inl, inr, arith, eqb-true}
use Rattle.std.specs.List.{list_any}
use Rattle.std.proofs.lemmas.Bool.{and_parts, cases_Bool, cond-false, cond-true, cond_both, or_parts}
use Rattle.std.proofs.lemmas.List.{map-id}
use Rattle.std.proofs.lemmas.Simd.{map-map}
use Rattle.sched_base.specs.Bucket.{index}
use Rattle.sched_base.specs.declared.Bucket.{Bucket}
use Rattle.sched_base.specs.declared.Bucket.TheVariants.{Ui}
use Rattle.bucket_tables.specs.declared.Lane.{Lane}
use Rattle.flat_policy.specs.declared.setup.Times.{Times}
use Rattle.flat_policy.specs.Policy.Queue.{LaneState, lane, same_bucket, same_flag, same_lane}
use Rattle.flat_policy.specs.Policy.Windows.{at_lane, renewed_deadline}
use Rattle.windows.specs.Flags.{FillingFollows}
use Rattle.windows.specs.WindowStates.{with_flag}
use Rattle.cluster_queue.specs.Queues.{AreTen}
use Rattle.cluster_queue.proofs.Members.{map_alike}
use Rattle.cluster_queue.proofs.Buckets.{bucket_by_index, same_flag_is}

pub same_lane_is : (x y : Lane) → same_lane x y ≡ true → x ≡ y
same_lane_is x y h =
    let parts = and_parts (same_bucket x.bucket y.bucket) (same_flag x.bound y.bound) h in
    ap₂ lane (bucket_by_index x.bucket y.bucket (eqb-true (index x.bucket) (index y.bucket) parts.0)) (same_flag_is x.bound y.bound parts.1)

-- whether a lane is among those of some windows
abbrev is_among : Lane → List LaneState → Bool
is_among at lanes = list_any (λ (m : Lane). same_lane m at) (map (λ (l : LaneState). l.lane) lanes)

-- no timeshare lane is one of UI
pub ui_apart : (lanes : List LaneState) (at : Lane) → at.bucket ≡ Ui → AreTen lanes → is_among at lanes ≡ false
ui_apart lanes at ui ten =
    ap (λ (b : Bucket). is_among (lane b at.bound) lanes) ui ∙ ap (list_any (λ (m : Lane). same_lane m (lane Ui at.bound))) ten

-- what is alike for every other lane is alike for all, where a lane is not among them
map_apart : {Y : Type 0} (f g : LaneState → Y) (at : Lane) (lanes : List LaneState) → is_among at lanes ≡ false → ((l : LaneState) → same_lane l.lane at ≡ false → f l ≡ g l) → map f lanes ≡ map g lanes
map_apart f g at [] apart same = refl
map_apart f g at (l ∷ ls) apart same =
    let parts = or_parts (same_lane l.lane at) (is_among at ls) apart in
    ap₂ (λ y ys. y ∷ ys) (same l parts.0) (map_apart f g at ls parts.1 same)

pub lanes_stay : (at : Lane) (f : LaneState → LaneState) (lanes : List LaneState) → is_among at lanes ≡ false → at_lane at f lanes ≡ lanes
lanes_stay at f lanes apart =
    map_apart (λ (l : LaneState). cond (same_lane l.lane at) (f l) l) (λ (l : LaneState). l) at lanes apart (λ l other. cond-false (same_lane l.lane at) (f l) l other)
    ∙ map-id lanes

pub flags_stay : (at : Lane) (b : Bool) (lanes : List LaneState) (fs : List Bool) → is_among at lanes ≡ false → length fs ≡ length lanes → with_flag at b lanes fs ≡ fs
flags_stay at b [] [] apart long = refl
flags_stay at b [] (f ∷ fs) apart long = absurd (omega (arith, long))
flags_stay at b (l ∷ ls) [] apart long = refl
flags_stay at b (l ∷ ls) (f ∷ fs) apart long =
    let parts = or_parts (same_lane l.lane at) (is_among at ls) apart in
    ap₂ (λ g gs. g ∷ gs) (cond-false (same_lane l.lane at) b f parts.0) (flags_stay at b ls fs parts.1 (omega (arith, long)))

-- the flags by a test once a lane passes: where it is not among the lanes, where it passed before, and where it is filled
module _ (has : Lane → Bool) (at : Lane) where
  abbrev passes : LaneState → Bool
  passes l = has l.lane

  abbrev passes_now : LaneState → Bool
  passes_now l = cond (same_lane l.lane at) true (has l.lane)

  pub flags_apart : (lanes : List LaneState) → is_among at lanes ≡ false → map passes lanes ≡ map passes_now lanes
  flags_apart lanes apart = map_apart passes passes_now at lanes apart (λ l other. sym (cond-false (same_lane l.lane at) true (has l.lane) other))

  pub flags_already : (lanes : List LaneState) → has at ≡ true → map passes lanes ≡ map passes_now lanes
  flags_already lanes h = map_alike passes passes_now lanes (λ l. elim (cases_Bool (same_lane l.lane at)) [
    | inl same ↦ ap has (same_lane_is l.lane at same) ∙ (h ∙ sym (cond-true (same_lane l.lane at) true (has l.lane) same))
    | inr other ↦ sym (cond-false (same_lane l.lane at) true (has l.lane) other)
  ])

  pub flags_filled : FillingFollows → (ts : List Times) (now : ℕ) (lanes : List LaneState) → with_flag at true lanes (map passes lanes) ≡ map passes_now (at_lane at (renewed_deadline ts now) lanes)
  flags_filled law ts now lanes =
      let renewed : LaneState → LaneState = λ l. cond (same_lane l.lane at) (renewed_deadline ts now l) l in
      law has at true lanes
      ∙ (map_alike passes_now (λ (l : LaneState). passes_now (renewed l)) lanes
      (λ l. ap (λ (m : Lane). cond (same_lane m at) true (has m))
      (cond_both (same_lane l.lane at) (renewed_deadline ts now l) l (λ (k : LaneState). l.lane ≡ k.lane) (λ e. refl) (λ e. refl)))
      ∙ sym (map-map passes_now renewed lanes))
