-- The lanes that an entry is not of stay, where it comes into the queue.
use Rattle.std.proofs.Common.{◌≡◌, ◌≢◌, ℕ, Bool, false, is_some, sym, subst}
use Rattle.std.proofs.lemmas.Bool.{false_from_ne_true}
use Rattle.sched_base.specs.declared.Bucket.{Bucket}
use Rattle.flat_policy.specs.Policy.Queue.{Flat, Queued, in_lane, lane}
use Rattle.link_arena.specs.Arena.{Arena}
use Rattle.thread_queue.specs.declared.item.Item.{Item}
use Rattle.clutch_bucket.specs.Lane.{Lane}
use Rattle.clutch_bucket.specs.Laws.{LanesStay, SlotsStay}
use Rattle.cluster_queue.specs.Heaps.{LaneFollows}
use Rattle.cluster_queue.proofs.Buckets.{parts_of_lane}
use Rattle.cluster_queue.proofs.OneMore.{HasOneMore, NumbersStay, same_clutches}
use Rattle.cluster_queue.proofs.Staying.{lane_follows}

-- an entry of another bucket, and one that is bound otherwise
pub other_bucket : (b : Bucket) (bound : Bool) (e : Queued) → e.facts.bucket ≢ b → in_lane (lane b bound) e ≡ false
other_bucket b bound e n = false_from_ne_true (in_lane (lane b bound) e) (λ h. n (parts_of_lane b bound e h).0)

pub other_flag : (b : Bucket) (bound : Bool) (e : Queued) → is_some e.facts.bound ≢ bound → in_lane (lane b bound) e ≡ false
other_flag b bound e n = false_from_ne_true (in_lane (lane b bound) e) (λ h. n (parts_of_lane b bound e h).1)

pub lane_stays : LanesStay → (old new : Arena Item) (at : Lane) (count : ℕ) (b : Bucket) (s next : Flat) (e : Queued) → LaneFollows old at count b s → SlotsStay old new at
    → HasOneMore s next e → NumbersStay s next b → in_lane (lane b false) e ≡ false → LaneFollows new at count b next
lane_stays stay old new at count b s next e f slots more numbers none =
    lane_follows stay old new at count b s next slots
    (same_clutches at s next e more (subst (NumbersStay s next) (sym f.bucket) numbers)
    (subst (λ (c : Bucket). in_lane (lane c false) e ≡ false) (sym f.bucket) none)) f
