-- Lanes follow and hold still where their slots stay.
use Rattle.std.proofs.Common.{ℕ, ◌<◌, sym, ◌∙◌}
use Rattle.sched_base.specs.declared.Bucket.{Bucket}
use Rattle.flat_policy.specs.Policy.Queue.{Flat}
use Rattle.link_arena.specs.Arena.{Arena}
use Rattle.thread_queue.specs.Laws.{StaysIn}
use Rattle.thread_queue.specs.declared.item.Item.{Item}
use Rattle.clutch_bucket.specs.Lane.{Lane, groups, queue_at}
use Rattle.clutch_bucket.specs.Laws.{LanesStand, LanesStay, SameClutches}
use Rattle.cluster_queue.specs.Heaps.{LaneFollows, bound_at, lane_at}
use Rattle.cluster_queue.specs.declared.heaps.Heaps.{Heaps}
use Rattle.cluster_queue.proofs.Apart.{LanesHold}
use Rattle.cluster_queue.proofs.BoundLanes.{AllStay}
use Rattle.cluster_queue.proofs.Slots.{has_before}
use Rattle.cluster_queue.proofs.Staying.{lane_follows}

module _ (old new : Arena Item) (values : AllStay old new) where
  -- a lane whose queues stay follows a queue with the same clutch buckets
  pub lane_still : LanesStay → (at : Lane) (count : ℕ) (b : Bucket) (s next : Flat) → ((group : ℕ) → group < groups at → StaysIn old new (queue_at at group)) → SameClutches at s next → LaneFollows old at count b s → LaneFollows new at count b next
  lane_still law at count b s next queues same f = lane_follows law old new at count b s next (record { queues = queues; values = λ slot has. values slot }) same f

  -- where all lanes and bound queues stay they hold items of their lanes still
  pub holds_still : LanesStand → (heaps : Heaps) → ((b : Bucket) (group : ℕ) → group < groups (lane_at heaps b) → StaysIn old new (queue_at (lane_at heaps b) group))
      → ((b : Bucket) → StaysIn old new (bound_at heaps b)) → LanesHold old heaps → LanesHold new heaps
  holds_still law heaps queues bound h = record {
    lanes = λ b. law old new (lane_at heaps b) (h.lanes b) (record { queues = queues b; values = λ slot has. values slot });
    bound = λ b. (bound b).stands;
    in_unbound = λ b slot item has stored.
        h.in_unbound b slot item (has.0, (has.1.0, has_before old new (queue_at (lane_at heaps b) has.0) slot (queues b has.0 has.1.0) has.1.1)) (sym (values slot) ∙ stored);
    in_bound = λ b slot item has stored. h.in_bound b slot item (has_before old new (bound_at heaps b) slot (bound b) has) (sym (values slot) ∙ stored);
  }
