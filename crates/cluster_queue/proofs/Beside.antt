-- Lanes and bound queues follow still where only the heaps of foreign threads change.
use Rattle.std.proofs.Common.{ℕ, List, arith}
use Rattle.sched_base.specs.declared.Bucket.{Bucket}
use Rattle.flat_policy.specs.Policy.Queue.{Flat, Queued}
use Rattle.link_arena.specs.Arena.{Arena}
use Rattle.pairing_heap.specs.Heap.{LinksOnly}
use Rattle.thread_queue.specs.Laws.{StaysIn, StaysWhereOtherSetChanges}
use Rattle.thread_queue.specs.Queue.{Queue, StandsIn}
use Rattle.thread_queue.specs.declared.item.Item.{Item}
use Rattle.clutch_bucket.specs.Lane.{Lane, queue_at}
use Rattle.clutch_bucket.specs.Laws.{LanesStay}
use Rattle.cluster_queue.specs.Filling.{OnlyForeignChange}
use Rattle.cluster_queue.specs.Heaps.{BoundFollows, LaneFollows}
use Rattle.cluster_queue.proofs.BoundLanes.{bound_stays}
use Rattle.cluster_queue.proofs.StillFollow.{lane_still}
use Rattle.cluster_queue.proofs.Staying.{clutches_same}

-- so do changes by calls on heaps of set 1
pub foreign_links : (old new : Arena Item) (times : ℕ → ℕ) → LinksOnly 1 old new times → OnlyForeignChange old new
foreign_links old new times kept = record { values = kept.values; other_set = kept.other_set; spare = kept.spare }

module _ (queues : StaysWhereOtherSetChanges) (old new : Arena Item) (kept : OnlyForeignChange old new) where
  pub queue_beside : (queue : Queue) → StandsIn old queue → StaysIn old new queue
  queue_beside queue stands =
      queues old new 1 (λ slot. 1) (λ e. omega (arith, e))
      (record { values = kept.values; other_set = kept.other_set; elsewhere = λ slot none. absurd (omega (arith, none)); spare = kept.spare }) queue stands

  pub lane_beside : LanesStay → (at : Lane) (count : ℕ) (b : Bucket) (s : Flat) → LaneFollows old at count b s → LaneFollows new at count b s
  lane_beside stay at count b s f =
      lane_still old new kept.values stay at count b s s (λ group within. queue_beside (queue_at at group) (f.follows.stands.units.each group within).stands) (clutches_same at s) f

  pub bound_beside : (queue : Queue) (es : List Queued) → BoundFollows old queue es → BoundFollows new queue es
  bound_beside queue es f = bound_stays old new queue es kept.values (queue_beside queue f.stands) f
