-- Clutch buckets by group: which entries stand in them, and where their numbers stand.
use Rattle.std.proofs.Common.{◌≡◌, ◌≢◌, ℕ, zero, suc, ◌*◌, ◌<◌, ◌==◌, ◌&&◌, Bool, true, false, not, is_some, refl, sym, ap, ap₂, ◌∙◌, arith, eqb-true, eq-eqb}
use Rattle.std.proofs.lemmas.Bool.{and_from, and_parts, not-true, not_from_false}
use Rattle.sched_base.specs.Bucket.{index}
use Rattle.sched_base.specs.declared.Bucket.{Bucket}
use Rattle.sched_base.specs.declared.Bucket.TheVariants.{Bg, Df, Fg, Ini, Ui, Ut}
use Rattle.flat_policy.specs.Policy.Queue.{Clutch, Queued, clutch_of, clutch_place, in_clutch, in_lane, lane, same_bucket, same_flag}

-- the bucket of an index
bucket_by : ℕ → Bucket
bucket_by zero = Ui
bucket_by (suc zero) = Fg
bucket_by (suc (suc zero)) = Ini
bucket_by (suc (suc (suc zero))) = Df
bucket_by (suc (suc (suc (suc zero)))) = Ut
bucket_by (suc (suc (suc (suc (suc n))))) = Bg

by_its_index : (b : Bucket) → bucket_by (index b) ≡ b
unfolding bucket_by
by_its_index Ui = refl
by_its_index Fg = refl
by_its_index Ini = refl
by_its_index Df = refl
by_its_index Ut = refl
by_its_index Bg = refl

pub index_small : (b : Bucket) → index b < 6
index_small Ui = omega arith
index_small Fg = omega arith
index_small Ini = omega arith
index_small Df = omega arith
index_small Ut = omega arith
index_small Bg = omega arith

pub bucket_is : (x y : Bucket) → same_bucket x y ≡ true → x ≡ y
bucket_is x y h = sym (by_its_index x) ∙ (ap bucket_by (eqb-true (index x) (index y) h) ∙ by_its_index y)

unflagged : (a : Bool) → same_flag a false ≡ true → a ≡ false
unflagged true h = sym h
unflagged false h = refl

flag_of_none : (a : Bool) → a ≡ false → same_flag a false ≡ true
flag_of_none true h = sym h
flag_of_none false h = refl

-- an entry of a clutch bucket: its parts, and back
pub parts_of_clutch : (k : Clutch) (e : Queued) → in_clutch k e ≡ true → (is_some e.facts.bound ≡ false) × ((e.facts.group ≡ k.group) × (e.facts.bucket ≡ k.bucket))
parts_of_clutch k e h =
    let outer = and_parts (not (is_some e.facts.bound)) ((e.facts.group == k.group) && same_bucket e.facts.bucket k.bucket) h in
    let inner = and_parts (e.facts.group == k.group) (same_bucket e.facts.bucket k.bucket) outer.1 in
    (not-true (is_some e.facts.bound) outer.0, (eqb-true e.facts.group k.group inner.0, bucket_is e.facts.bucket k.bucket inner.1))

pub in_clutch_from : (k : Clutch) (e : Queued) → is_some e.facts.bound ≡ false → e.facts.group ≡ k.group → e.facts.bucket ≡ k.bucket → in_clutch k e ≡ true
in_clutch_from k e unbound group bucket =
    and_from (not (is_some e.facts.bound)) ((e.facts.group == k.group) && same_bucket e.facts.bucket k.bucket)
    (not_from_false (is_some e.facts.bound) unbound)
    (and_from (e.facts.group == k.group) (same_bucket e.facts.bucket k.bucket) (eq-eqb e.facts.group k.group group)
    (eq-eqb (index e.facts.bucket) (index k.bucket) (ap index bucket)))

pub parts_of_lane : (b : Bucket) (e : Queued) → in_lane (lane b false) e ≡ true → (is_some e.facts.bound ≡ false) × (e.facts.bucket ≡ b)
parts_of_lane b e h =
    let parts = and_parts (same_bucket e.facts.bucket b) (same_flag (is_some e.facts.bound) false) h in
    (unflagged (is_some e.facts.bound) parts.1, bucket_is e.facts.bucket b parts.0)

pub in_lane_from : (b : Bucket) (e : Queued) → is_some e.facts.bound ≡ false → e.facts.bucket ≡ b → in_lane (lane b false) e ≡ true
in_lane_from b e unbound bucket =
    and_from (same_bucket e.facts.bucket b) (same_flag (is_some e.facts.bound) false)
    (eq-eqb (index e.facts.bucket) (index b) (ap index bucket)) (flag_of_none (is_some e.facts.bound) unbound)

-- an entry of a clutch bucket stands in its lane, and an entry of a lane in the clutch bucket of its group
pub lane_of_clutch : (g : ℕ) (b : Bucket) (e : Queued) → in_clutch (record { group = g; bucket = b }) e ≡ true → in_lane (lane b false) e ≡ true
lane_of_clutch g b e h = let parts = parts_of_clutch (record { group = g; bucket = b }) e h in in_lane_from b e parts.0 parts.1.1

pub clutch_in_lane : (b : Bucket) (e : Queued) → in_lane (lane b false) e ≡ true → in_clutch (record { group = e.facts.group; bucket = b }) e ≡ true
clutch_in_lane b e h = let parts = parts_of_lane b e h in in_clutch_from (record { group = e.facts.group; bucket = b }) e parts.0 refl parts.1

pub clutch_by : (g h : ℕ) (b c : Bucket) → g ≡ h → b ≡ c → ◌≡◌ {A = Clutch} (record { group = g; bucket = b }) (record { group = h; bucket = c })
clutch_by g h b c same alike = ap₂ (λ (i : ℕ) (d : Bucket). record { group = i; bucket = d }) same alike

-- the clutch bucket of an entry
pub own_clutch : (k : Clutch) (e : Queued) → in_clutch k e ≡ true → clutch_of e.facts ≡ k
own_clutch k e h = let parts = parts_of_clutch k e h in clutch_by e.facts.group k.group e.facts.bucket k.bucket parts.1.0 parts.1.1

-- places of two groups differ, and are within
pub places_differ : (g h : ℕ) (b : Bucket) → h ≢ g → clutch_place (record { group = h; bucket = b }) ≢ clutch_place (record { group = g; bucket = b })
places_differ g h b n = λ same. n (omega (arith, same))

pub place_within : (groups g : ℕ) (b : Bucket) → g < groups → clutch_place (record { group = g; bucket = b }) < groups * 6
place_within groups g b h = omega (arith, h, index_small b)
