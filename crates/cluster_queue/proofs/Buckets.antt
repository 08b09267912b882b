-- Buckets by their index, and what the tests for lanes and clutch buckets say of an entry.
use Rattle.std.proofs.Common.{◌≡◌, ◌≢◌, ◌⊎◌, ◌<◌, ◌==◌, ◌&&◌, Bool, true, false, not, is_some, refl, sym, ap, ◌∙◌, inl, inr, arith, eqb-true, eq-eqb}
use Rattle.std.proofs.lemmas.Bool.{and_from, and_parts, cases_eq, not-true, not_from_false}
use Rattle.sched_base.specs.Bucket.{index}
use Rattle.sched_base.specs.declared.Bucket.{Bucket}
use Rattle.sched_base.specs.declared.Bucket.TheVariants.{Bg, Df, Fg, Ini, Ui, Ut}
use Rattle.flat_policy.specs.Policy.Queue.{Clutch, Queued, in_clutch, in_lane, lane, same_bucket, same_flag}
use Rattle.cluster_queue.specs.Heaps.{bucket_of}

by_index : (b : Bucket) → bucket_of (index b) ≡ b
by_index Ui = refl
by_index Fg = refl
by_index Ini = refl
by_index Df = refl
by_index Ut = refl
by_index Bg = refl

pub index_below : (b : Bucket) → index b < 6
index_below Ui = omega arith
index_below Fg = omega arith
index_below Ini = omega arith
index_below Df = omega arith
index_below Ut = omega arith
index_below Bg = omega arith

pub bucket_by_index : (b c : Bucket) → index b ≡ index c → b ≡ c
bucket_by_index b c h = sym (by_index b) ∙ (ap bucket_of h ∙ by_index c)

-- two buckets are the same, or not
pub cases_bucket : (b c : Bucket) → (b ≡ c) ⊎ (b ≢ c)
cases_bucket b c = elim (cases_eq (index b) (index c)) [
  | inl e ↦ inl (bucket_by_index b c e)
  | inr n ↦ inr (λ e. n (ap index e))
]

pub same_flag_is : (a b : Bool) → same_flag a b ≡ true → a ≡ b
same_flag_is true b h = sym h
same_flag_is false b h = sym (not-true b h)

is_same_flag : (a b : Bool) → a ≡ b → same_flag a b ≡ true
is_same_flag true b e = sym e
is_same_flag false b e = not_from_false b (sym e)

-- an entry of a lane has the lane's bucket, and is bound if the lane is; and back
pub parts_of_lane : (b : Bucket) (bound : Bool) (e : Queued) → in_lane (lane b bound) e ≡ true → (e.facts.bucket ≡ b) × (is_some e.facts.bound ≡ bound)
parts_of_lane b bound e h =
    let parts = and_parts (same_bucket e.facts.bucket b) (same_flag (is_some e.facts.bound) bound) h in
    (bucket_by_index e.facts.bucket b (eqb-true (index e.facts.bucket) (index b) parts.0), same_flag_is (is_some e.facts.bound) bound parts.1)

pub in_lane_from : (b : Bucket) (bound : Bool) (e : Queued) → e.facts.bucket ≡ b → is_some e.facts.bound ≡ bound → in_lane (lane b bound) e ≡ true
in_lane_from b bound e bucket flag =
    and_from (same_bucket e.facts.bucket b) (same_flag (is_some e.facts.bound) bound)
    (eq-eqb (index e.facts.bucket) (index b) (ap index bucket)) (is_same_flag (is_some e.facts.bound) bound flag)

-- an entry of a clutch bucket is one of the bucket's unbound lane
pub lane_of_clutch : (k : Clutch) (e : Queued) → in_clutch k e ≡ true → in_lane (lane k.bucket false) e ≡ true
lane_of_clutch k e h =
    let outer = and_parts (not (is_some e.facts.bound)) ((e.facts.group == k.group) && same_bucket e.facts.bucket k.bucket) h in
    let inner = and_parts (e.facts.group == k.group) (same_bucket e.facts.bucket k.bucket) outer.1 in
    and_from (same_bucket e.facts.bucket k.bucket) (same_flag (is_some e.facts.bound) false) inner.1
    (is_same_flag (is_some e.facts.bound) false (not-true (is_some e.facts.bound) outer.0))
