-- The heaps of a cluster's queue: the units of each unbound lane, the queue of each bound lane, and the heaps of foreign threads.
use Rattle.std.specs.Prelude.{[], List, Option, Some, length, map, slice_index_or, true, ℕ, ◌%◌, ◌*◌, ◌/◌, ◌<◌, ◌∷◌, ◌≡◌, ◌≤◌}
use Rattle.sched_base.specs.Bucket.{index}
use Rattle.sched_base.specs.Limits.{most_base, most_clusters}
use Rattle.sched_base.specs.declared.Bucket.{Bucket}
use Rattle.sched_base.specs.declared.Bucket.TheVariants.{Bg, Df, Fg, Ini, Ui, Ut}
use Rattle.flat_policy.specs.Policy.Queue.{Flat, Queued, lane, lane_entries}
use Rattle.flat_policy.specs.Policy.Setup.{numbers_below}
use Rattle.flat_policy.specs.Policy.Usage.{Spans}
use Rattle.link_arena.specs.Arena.{Arena, links_at, unlinked, value_at}
use Rattle.thread_queue.specs.Laws.{AreEntries}
use Rattle.thread_queue.specs.Queue.{Queue, StandsIn}
use Rattle.thread_queue.specs.declared.item.Item.{Item}
use Rattle.clutch_bucket.specs.Lane.{ArrivalsDiffer, Follows, Lane, groups, no_queue, rank_at, rank_turn, spans_at}
use Rattle.stealing.specs.Foreign.{LacksSlot, OffersEntries}
use Rattle.cluster_queue.specs.declared.heaps.Heaps.{Heaps}

-- a lane for no group
abbrev pub no_lane : Lane
no_lane = record { bucket = Ui; queues = []; spans = []; ranks = []; len = 0 }

-- the units of a bucket's unbound lane
abbrev pub lane_at : Heaps → Bucket → Lane
lane_at heaps b = slice_index_or heaps.lanes (index b) no_lane

-- the queue of a bucket's bound lane
abbrev pub bound_at : Heaps → Bucket → Queue
bound_at heaps b = slice_index_or heaps.bound (index b) no_queue

-- there are lanes and bound queues for six buckets
pub record AreSix (heaps : Heaps) : Type 0 where
  pub lanes : length heaps.lanes ≡ 6
  pub bound : length heaps.bound ≡ 6

-- the units are those of a bucket, for so many groups, and the clutch buckets of the cluster's queue
pub record LaneFollows (arena : Arena Item) (at : Lane) (count : ℕ) (b : Bucket) (s : Flat) : Type 0 where
  pub bucket : at.bucket ≡ b
  pub groups : groups at ≡ count
  pub follows : Follows arena at s

-- the slots of a queue hold these entries, each once
pub record BoundFollows (arena : Arena Item) (queue : Queue) (es : List Queued) : Type 0 where
  pub stands : StandsIn arena queue
  pub entries : AreEntries arena queue es
  pub count : queue.count ≡ length es
  pub apart : ArrivalsDiffer arena queue

-- the links of set 1 of every slot that no heap of foreign threads has lead nowhere
abbrev pub IsLoose : Arena Item → Heaps → Type 0
IsLoose arena heaps = (slot : ℕ) → LacksSlot arena heaps.foreign slot → links_at arena 1 slot ≡ unlinked

-- the heaps are those of a cluster's queue of so many groups
pub record HeapsFollow (arena : Arena Item) (heaps : Heaps) (count : ℕ) (s : Flat) : Type 0 where
  pub six : AreSix heaps
  pub lanes : (b : Bucket) → LaneFollows arena (lane_at heaps b) count b s
  pub bound : (b : Bucket) → BoundFollows arena (bound_at heaps b) (lane_entries s (lane b true))
  pub foreign : OffersEntries arena heaps.foreign s.entries
  pub loose : IsLoose arena heaps

-- an item is in range: its group and its preferred cluster are there, its priority is small, and its thread has no pending spans
pub record ItemFits (count : ℕ) (item : Item) : Type 0 where
  pub group : item.thread.group < count
  pub small : item.pri ≤ most_base
  pub prefer : item.thread.prefer < most_clusters
  pub ran : item.thread.pending_ran ≡ 0
  pub blocked : item.thread.pending_blocked ≡ 0

-- so is every item of the arena
abbrev pub AreItems : Arena Item → ℕ → Type 0
AreItems arena count = (slot : ℕ) (item : Item) → value_at arena slot ≡ Some item → ItemFits count item

-- the bucket of an index below 6
abbrev pub bucket_of : ℕ → Bucket
bucket_of i = slice_index_or (Ui ∷ Fg ∷ Ini ∷ Df ∷ Ut ∷ Bg ∷ []) i Ui

-- what the clutch bucket of each place used and was blocked, by the units of the lanes
abbrev pub spans_in : Heaps → ℕ → List Spans
spans_in heaps count = map (λ place. spans_at (lane_at heaps (bucket_of (place % 6))) (place / 6)) (numbers_below (count * 6))

-- the turn of the clutch bucket of each place, by the keys of the units of the lanes
abbrev pub turns_in : Heaps → ℕ → List (Option ℕ)
turns_in heaps count = map (λ place. rank_turn (rank_at (lane_at heaps (bucket_of (place % 6))) (place / 6))) (numbers_below (count * 6))
