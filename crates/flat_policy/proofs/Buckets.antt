-- Buckets, lanes and clutch buckets by their numbers.
use Rattle.std.proofs.Common.{◌≡◌, ◌≢◌, ◌⊎◌, ℕ, zero, suc, ◌*◌, ◌<◌, Bool, true, false, ◌==◌, ◌&&◌, not, is_some, refl, sym, ap, ap₂, ◌∙◌, inl, inr, arith, eqb-true, eq-eqb}
use Rattle.std.proofs.lemmas.Bool.{and_from, and_parts, cases_eq, not-true}
use Rattle.sched_base.specs.Bucket.{index}
use Rattle.sched_base.specs.declared.Bucket.{Bucket}
use Rattle.sched_base.specs.declared.Bucket.TheVariants.{Bg, Df, Fg, Ini, Ui, Ut}
use Rattle.bucket_tables.specs.declared.Lane.{Lane}
use Rattle.flat_policy.specs.Policy.Queue.{Clutch, Queued, clutch_of, clutch_place, in_clutch, in_lane, lane, lane_of, same_bucket, same_flag, same_lane}

-- the bucket of an index
bucket_at : ℕ → Bucket
bucket_at zero = Ui
bucket_at (suc zero) = Fg
bucket_at (suc (suc zero)) = Ini
bucket_at (suc (suc (suc zero))) = Df
bucket_at (suc (suc (suc (suc zero)))) = Ut
bucket_at (suc (suc (suc (suc (suc n))))) = Bg

bucket_at_index : (b : Bucket) → bucket_at (index b) ≡ b
unfolding bucket_at
bucket_at_index Ui = refl
bucket_at_index Fg = refl
bucket_at_index Ini = refl
bucket_at_index Df = refl
bucket_at_index Ut = refl
bucket_at_index Bg = refl

pub bucket_from_index : (x y : Bucket) → index x ≡ index y → x ≡ y
bucket_from_index x y e = sym (bucket_at_index x) ∙ (ap bucket_at e ∙ bucket_at_index y)

pub index_below : (b : Bucket) → index b < 6
index_below Ui = omega arith
index_below Fg = omega arith
index_below Ini = omega arith
index_below Df = omega arith
index_below Ut = omega arith
index_below Bg = omega arith

pub same_bucket_is : (x y : Bucket) → same_bucket x y ≡ true → x ≡ y
same_bucket_is x y h = bucket_from_index x y (eqb-true (index x) (index y) h)

pub same_bucket_itself : (x : Bucket) → same_bucket x x ≡ true
same_bucket_itself x = eq-eqb (index x) (index x) refl

pub same_flag_is : (a b : Bool) → same_flag a b ≡ true → a ≡ b
same_flag_is true b h = sym h
same_flag_is false b h = sym (not-true b h)

pub same_flag_itself : (a : Bool) → same_flag a a ≡ true
same_flag_itself true = refl
same_flag_itself false = refl

pub same_lane_is : (x y : Lane) → same_lane x y ≡ true → x ≡ y
same_lane_is x y h =
    let parts = and_parts (same_bucket x.bucket y.bucket) (same_flag x.bound y.bound) h in
    let b = same_bucket_is x.bucket y.bucket parts.0 in
    let f = same_flag_is x.bound y.bound parts.1 in
    ap₂ lane b f

pub same_lane_itself : (x : Lane) → same_lane x x ≡ true
same_lane_itself x =
    and_from (same_bucket x.bucket x.bucket) (same_flag x.bound x.bound) (same_bucket_itself x.bucket) (same_flag_itself x.bound)

-- an entry stands in the lane of its thread, and in no other
pub in_lane_is : (at : Lane) (e : Queued) → in_lane at e ≡ true → lane_of e.facts ≡ at
in_lane_is at e h = same_lane_is (lane_of e.facts) at h

pub in_own_lane : (e : Queued) → in_lane (lane_of e.facts) e ≡ true
in_own_lane e = same_lane_itself (lane_of e.facts)

pub clutch_is : (g h : ℕ) (b c : Bucket) → g ≡ h → b ≡ c → ◌≡◌ {A = Clutch} (record { group = g; bucket = b }) (record { group = h; bucket = c })
clutch_is g h b c e f = cc

-- two clutch buckets at one place are one
pub clutch_from_place : (k l : Clutch) → clutch_place k ≡ clutch_place l → k ≡ l
clutch_from_place k l e =
    let kb = index_below k.bucket in
    let lb = index_below l.bucket in
    let i : index k.bucket ≡ index l.bucket = omega arith in
    let g : k.group ≡ l.group = omega arith in
    clutch_is k.group l.group k.bucket l.bucket g (bucket_from_index k.bucket l.bucket i)

pub cases_clutch : (k l : Clutch) → (k ≡ l) ⊎ (k ≢ l)
cases_clutch k l =
    elim (cases_eq (clutch_place k) (clutch_place l)) [
      | inl e ↦ inl (clutch_from_place k l e)
      | inr n ↦ inr (λ same. n (ap clutch_place same))
    ]

pub place_within : (groups : ℕ) (k : Clutch) → k.group < groups → clutch_place k < groups * 6
place_within groups k h = omega (arith, index_below k.bucket, h)

-- what it is for an entry to stand in a clutch bucket
pub in_clutch_parts : (k : Clutch) (e : Queued) → in_clutch k e ≡ true → (is_some e.facts.bound ≡ false) × (clutch_of e.facts ≡ k)
in_clutch_parts k e h =
    let parts = and_parts (not (is_some e.facts.bound)) ((e.facts.group == k.group) && same_bucket e.facts.bucket k.bucket) h in
    let both = and_parts (e.facts.group == k.group) (same_bucket e.facts.bucket k.bucket) parts.1 in (
      not-true (is_some e.facts.bound) parts.0,
      clutch_is e.facts.group k.group e.facts.bucket k.bucket (eqb-true e.facts.group k.group both.0) (same_bucket_is e.facts.bucket k.bucket both.1),
    )

pub in_own_clutch : (e : Queued) → is_some e.facts.bound ≡ false → in_clutch (clutch_of e.facts) e ≡ true
in_own_clutch e h =
    and_from (not (is_some e.facts.bound)) ((e.facts.group == e.facts.group) && same_bucket e.facts.bucket e.facts.bucket)
    (ap not h)
    (and_from (e.facts.group == e.facts.group) (same_bucket e.facts.bucket e.facts.bucket) (eq-eqb e.facts.group e.facts.group refl) (same_bucket_itself e.facts.bucket))
