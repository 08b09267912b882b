-- Lanes and bound queues follow still where only links of set 1 change, as by the heaps of foreign threads.
use Rattle.std.proofs.Common.{ℕ, ◌<◌, true}
use Rattle.sched_base.specs.declared.Bucket.{Bucket}
use Rattle.flat_policy.specs.Policy.Queue.{Flat, lane, lane_entries}
use Rattle.link_arena.specs.Arena.{Arena}
use Rattle.pairing_heap.specs.Heap.{LinksOnly}
use Rattle.thread_queue.specs.Laws.{StaysIn, StaysWhereOtherSetChanges}
use Rattle.thread_queue.specs.declared.item.Item.{Item}
use Rattle.clutch_bucket.specs.Lane.{groups, queue_at}
use Rattle.clutch_bucket.specs.Laws.{LanesStand, LanesStay}
use Rattle.cluster_queue.specs.Filling.{OnlyForeignChange}
use Rattle.cluster_queue.specs.Heaps.{BoundFollows, HeapsFollow, LaneFollows, bound_at, lane_at}
use Rattle.cluster_queue.specs.declared.heaps.Heaps.{Heaps}
use Rattle.cluster_queue.proofs.Apart.{LanesHold, holds_follow}
use Rattle.cluster_queue.proofs.StillFollow.{holds_still}
use Rattle.cluster_queue.proofs.Beside.{bound_beside, foreign_links, lane_beside, queue_beside}

module _ (queues : StaysWhereOtherSetChanges) (old new : Arena Item) (times : ℕ → ℕ) (kept : LinksOnly 1 old new times) (heaps : Heaps) (count : ℕ) (s : Flat) (f : HeapsFollow old heaps count s) where
  only : OnlyForeignChange old new
  only = foreign_links old new times kept

  held : LanesHold old heaps
  held = holds_follow old heaps count s f

  pub unit_queue : (b : Bucket) (group : ℕ) → group < groups (lane_at heaps b) → StaysIn old new (queue_at (lane_at heaps b) group)
  unit_queue b group inside = queue_beside queues old new only (queue_at (lane_at heaps b) group) ((held.lanes b).units.each group inside).stands

  pub bound_queue : (b : Bucket) → StaysIn old new (bound_at heaps b)
  bound_queue b = queue_beside queues old new only (bound_at heaps b) (held.bound b)

  pub second_hold : LanesStand → LanesHold new heaps
  second_hold stand = holds_still old new kept.values stand heaps unit_queue bound_queue held

  pub second_lane : LanesStay → (b : Bucket) → LaneFollows new (lane_at heaps b) count b s
  second_lane stay b = lane_beside queues old new only stay (lane_at heaps b) count b s (f.lanes b)

  pub second_bound : (b : Bucket) → BoundFollows new (bound_at heaps b) (lane_entries s (lane b true))
  second_bound b = bound_beside queues old new only (bound_at heaps b) (lane_entries s (lane b true)) (f.bound b)
