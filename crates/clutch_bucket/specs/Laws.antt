-- What stays of a lane where the arena and the cluster's queue change elsewhere, and what the queue of a bound lane holds once it is priced anew.
use Rattle.std.specs.Prelude.{Some, count_by, false, length, map, not, true, ℕ, ◌<◌, ◌==◌, ◌≡◌, ◌≢◌}
use Rattle.sched_base.specs.declared.Bucket.{Bucket}
use Rattle.sched_base.specs.declared.Bucket.TheVariants.{Ui}
use Rattle.flat_policy.specs.Policy.Queue.{Clutch, Flat, Queued, clutch_entries, lane, lane_entries, spans_of, turn_of}
use Rattle.flat_policy.specs.Policy.Refresh.{repriced}
use Rattle.flat_policy.specs.Policy.WellFormed.{ArrivalsRise}
use Rattle.link_arena.specs.Arena.{Arena, value_at}
use Rattle.thread_queue.specs.Laws.{AreEntries, StaysIn}
use Rattle.thread_queue.specs.Queue.{HasSlot, Queue, StandsIn}
use Rattle.thread_queue.specs.declared.item.Item.{Item}
use Rattle.clutch_bucket.specs.Lane.{ArrivalsDiffer, Follows, HasLaneSlot, HoldsRepriced, Lane, LaneStands, groups, queue_at, unit_of}
use Rattle.clutch_bucket.specs.Repricing.{Reprices, changed_in}

-- the lane's queues stay, and so do the items at their slots
pub record SlotsStay (old new : Arena Item) (at : Lane) : Type 0 where
  pub queues : (group : ℕ) → group < groups at → StaysIn old new (queue_at at group)
  pub values : (slot : ℕ) → HasLaneSlot old at slot → value_at new slot ≡ value_at old slot

-- a clutch bucket has the same entries, spans and turn in both queues
pub record SameClutch (s next : Flat) (k : Clutch) : Type 0 where
  pub entries : clutch_entries next k ≡ clutch_entries s k
  pub spans : spans_of next k ≡ spans_of s k
  pub turn : turn_of next k ≡ turn_of s k

-- both queues have the same clutch buckets of the lane, and places for as many
pub record SameClutches (at : Lane) (s next : Flat) : Type 0 where
  pub each : (group : ℕ) → group < groups at → SameClutch s next (unit_of at group)
  pub len : length (lane_entries next (lane at.bucket false)) ≡ length (lane_entries s (lane at.bucket false))
  pub span_places : length next.spans ≡ length s.spans
  pub turn_places : length next.turns ≡ length s.turns

-- a lane stands where its slots stay
abbrev pub LanesStand : Type 0
LanesStand = (old new : Arena Item) (at : Lane) → LaneStands old at → SlotsStay old new at → LaneStands new at

-- and it follows a queue that has the same clutch buckets
abbrev pub LanesStay : Type 0
LanesStay = (old new : Arena Item) (at : Lane) (s next : Flat) → Follows old at s → SlotsStay old new at → SameClutches at s next → Follows new at next

-- the slots of a queue hold the entries of a bound lane, each once, and no pending spans
pub record BoundStands (arena : Arena Item) (queue : Queue) (s : Flat) (b : Bucket) : Type 0 where
  pub stands : StandsIn arena queue
  pub entries : AreEntries arena queue (lane_entries s (lane b true))
  pub count : queue.count ≡ length (lane_entries s (lane b true))
  pub apart : ArrivalsDiffer arena queue
  pub ran : (slot : ℕ) (item : Item) → HasSlot arena queue slot → value_at arena slot ≡ Some item → item.thread.pending_ran ≡ 0
  pub blocked : (slot : ℕ) (item : Item) → HasSlot arena queue slot → value_at arena slot ≡ Some item → item.thread.pending_blocked ≡ 0

-- the slots hold the lane's entries priced anew, and as many priorities change by the slots as by the entries
pub record BoundPriced (old new : Arena Item) (queue later : Queue) (now : ℕ) (s : Flat) (b : Bucket) : Type 0 where
  pub entries : AreEntries new later (map (repriced s now) (lane_entries s (lane b true)))
  pub count : later.count ≡ length (map (repriced s now) (lane_entries s (lane b true)))
  pub apart : ArrivalsDiffer new later
  pub holds : (slot : ℕ) (item : Item) → HasSlot old queue slot → value_at old slot ≡ Some item → HoldsRepriced new s now slot item
  pub changed : changed_in old queue now ≡ count_by (λ (e : Queued). not ((repriced s now e).pri == e.pri)) (lane_entries s (lane b true))

-- where the queue of a bound lane other than UI's is priced anew, its entries are priced anew
abbrev pub BoundLanesArePriced : Type 0
BoundLanesArePriced =
    (old new : Arena Item) (queue later : Queue) (now : ℕ) (s : Flat) (b : Bucket) → b ≢ Ui → ArrivalsRise s.entries
    → BoundStands old queue s b → Reprices old new queue later now → BoundPriced old new queue later now s b
