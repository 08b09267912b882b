-- In which clutch buckets an entry stands, and in which it doesn't.
use Rattle.std.proofs.Common.{◌≡◌, ◌≢◌, ◌==◌, ◌&&◌, true, false, not, is_some, ap, arith, eq-eqb}
use Rattle.std.proofs.lemmas.Bool.{and_from, and_left, and_right, ne_eqb, not_from_false, not_from_true}
use Rattle.sched_base.specs.Bucket.{index}
use Rattle.flat_policy.specs.Policy.Queue.{Clutch, Queued, clutch_place, in_clutch, same_bucket}
use Rattle.cluster_queue.proofs.Places.{index_differs}
use Rattle.cluster_queue.proofs.Buckets.{index_below}

-- places of clutch buckets of two buckets differ
pub places_differ : (k l : Clutch) → k.bucket ≢ l.bucket → clutch_place l ≢ clutch_place k
places_differ k l n = λ same.
    let apart = index_differs k.bucket l.bucket n in
    apart (omega (arith, same, index_below k.bucket, index_below l.bucket))

-- an unbound entry of the group and the bucket stands in their clutch bucket
pub in_clutch_from : (k : Clutch) (e : Queued) → is_some e.facts.bound ≡ false → e.facts.group ≡ k.group → e.facts.bucket ≡ k.bucket → in_clutch k e ≡ true
in_clutch_from k e unbound group bucket =
    and_from (not (is_some e.facts.bound)) ((e.facts.group == k.group) && same_bucket e.facts.bucket k.bucket) (not_from_false (is_some e.facts.bound) unbound)
    (and_from (e.facts.group == k.group) (same_bucket e.facts.bucket k.bucket) (eq-eqb e.facts.group k.group group) (eq-eqb (index e.facts.bucket) (index k.bucket) (ap index bucket)))

module _ (e : Queued) where
  -- an entry of another bucket stands in no clutch bucket of this one
  pub other_clutch : (k : Clutch) → e.facts.bucket ≢ k.bucket → in_clutch k e ≡ false
  other_clutch k n =
      and_right (not (is_some e.facts.bound)) ((e.facts.group == k.group) && same_bucket e.facts.bucket k.bucket)
      (and_right (e.facts.group == k.group) (same_bucket e.facts.bucket k.bucket) (ne_eqb (index e.facts.bucket) (index k.bucket) (index_differs e.facts.bucket k.bucket n)))

  -- a bound one stands in none
  pub no_clutch : (k : Clutch) → is_some e.facts.bound ≡ true → in_clutch k e ≡ false
  no_clutch k h = and_left (not (is_some e.facts.bound)) ((e.facts.group == k.group) && same_bucket e.facts.bucket k.bucket) (not_from_true (is_some e.facts.bound) h)
