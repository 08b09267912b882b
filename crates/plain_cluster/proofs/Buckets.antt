-- Buckets and lanes by their numbers.
use Rattle.std.proofs.Common.{◌≡◌, ◌<◌, arith, ℕ, zero, suc, Bool, true, false, refl, sym, ap, ap₂, ◌∙◌, eqb-true, eq-eqb}
use Rattle.std.proofs.lemmas.Bool.{and_from, and_parts, not-true}
use Rattle.sched_base.specs.Bucket.{index}
use Rattle.sched_base.specs.declared.Bucket.{Bucket}
use Rattle.sched_base.specs.declared.Bucket.TheVariants.{Bg, Df, Fg, Ini, Ui, Ut}
use Rattle.bucket_tables.specs.declared.Lane.{Lane}
use Rattle.flat_policy.specs.Policy.Queue.{lane, same_bucket, same_flag, same_lane}

-- the bucket of an index
bucket_at : ℕ → Bucket
bucket_at zero = Ui
bucket_at (suc zero) = Fg
bucket_at (suc (suc zero)) = Ini
bucket_at (suc (suc (suc zero))) = Df
bucket_at (suc (suc (suc (suc zero)))) = Ut
bucket_at (suc (suc (suc (suc (suc n))))) = Bg

bucket_at_index : (b : Bucket) → bucket_at (index b) ≡ b
unfolding bucket_at
bucket_at_index Ui = refl
bucket_at_index Fg = refl
bucket_at_index Ini = refl
bucket_at_index Df = refl
bucket_at_index Ut = refl
bucket_at_index Bg = refl

pub bucket_from_index : (x y : Bucket) → index x ≡ index y → x ≡ y
bucket_from_index x y e = sym (bucket_at_index x) ∙ (ap bucket_at e ∙ bucket_at_index y)

same_flag_is : (a b : Bool) → same_flag a b ≡ true → a ≡ b
same_flag_is true b h = sym h
same_flag_is false b h = sym (not-true b h)

same_flag_itself : (a : Bool) → same_flag a a ≡ true
same_flag_itself true = refl
same_flag_itself false = refl

pub same_lane_is : (x y : Lane) → same_lane x y ≡ true → x ≡ y
same_lane_is x y h =
    let parts = and_parts (same_bucket x.bucket y.bucket) (same_flag x.bound y.bound) h in
    let b = bucket_from_index x.bucket y.bucket (eqb-true (index x.bucket) (index y.bucket) parts.0) in
    let f = same_flag_is x.bound y.bound parts.1 in
    ap₂ lane b f

pub same_lane_itself : (x : Lane) → same_lane x x ≡ true
same_lane_itself x =
    and_from (same_bucket x.bucket x.bucket) (same_flag x.bound x.bound) (eq-eqb (index x.bucket) (index x.bucket) refl) (same_flag_itself x.bound)

pub index_below : (b : Bucket) → index b < 6
index_below Ui = omega arith
index_below Fg = omega arith
index_below Ini = omega arith
index_below Df = omega arith
index_below Ut = omega arith
index_below Bg = omega arith
