-- The flat queue of one cluster: an unordered list of entries, with the windows of its lanes and the turns of its clutch buckets.
-- The list stands in the order of arrival; that order decides no answer.
use Rattle.std.specs.List.{list_any}
use Rattle.std.specs.Prelude.{Bool, List, None, Option, [], false, filter, if◌then◌else◌, is_some, map, negsuc, not, pos, replicate, slice_index_or, true, ℕ, ℤ, ◌&&◌, ◌*◌, ◌+◌, ◌==◌}
use Rattle.sched_base.specs.Bucket.{index}
use Rattle.sched_base.specs.declared.Bucket.{Bucket}
use Rattle.sched_base.specs.declared.Facts.{Facts}
pub use Rattle.bucket_tables.specs.Lanes.{bucket_lane as lane, lanes_in_order as timeshare_lanes}
use Rattle.bucket_tables.specs.declared.Lane.{Lane}
use Rattle.flat_policy.specs.declared.lanes.Starved.{Starved}
use Rattle.flat_policy.specs.declared.lanes.Starved.TheVariants.{No}
use Rattle.flat_policy.specs.declared.lanes.Warp.{Warp}
use Rattle.flat_policy.specs.declared.lanes.Warp.TheVariants.{Unused}
use Rattle.flat_policy.specs.Policy.Usage.{Spans}

-- an entry of a queue: the thread, its priority, when it arrived among all, and its order number
pub record Queued : Type 0 where
  pub facts : Facts
  pub pri : ℕ
  pub arrival : ℕ
  pub order : ℤ

-- the order number of an arrival: the arrival for the tail, and -1 minus it for the head
abbrev pub order_number : Bool → ℕ → ℤ
order_number true arrival = negsuc arrival
order_number false arrival = pos arrival

-- the deadline and the windows of a timeshare lane
pub record LaneState : Type 0 where
  pub lane : Lane
  pub deadline : ℕ
  pub warp : Warp
  pub starved : Starved

-- the queue of a cluster: entries; spans and turns of clutch buckets, at group * 6 + bucket index; lanes; last moment, next arrival and turn; and whether it is on
pub record Flat : Type 0 where
  pub entries : List Queued
  pub spans : List Spans
  pub turns : List (Option ℕ)
  pub lanes : List LaneState
  pub last : ℕ
  pub next_arrival : ℕ
  pub next_turn : ℕ
  pub on : Bool

-- a lane as a new cluster has it
abbrev pub new_lane : Lane → LaneState
new_lane l = record { lane = l; deadline = 0; warp = Unused; starved = No }

-- the empty queue, for so many groups
abbrev pub empty_flat : ℕ → Flat
empty_flat groups = record {
  entries = [];
  spans = replicate (groups * 6) (record { used = 0; blocked = 0 });
  turns = replicate (groups * 6) None;
  lanes = map new_lane timeshare_lanes;
  last = 0;
  next_arrival = 0;
  next_turn = 0;
  on = true;
}

-- whether two buckets are the same
abbrev pub same_bucket : Bucket → Bucket → Bool
same_bucket x y = index x == index y

-- whether two truth values are the same
abbrev pub same_flag : Bool → Bool → Bool
same_flag true b = b
same_flag false b = not b

-- whether two lanes are the same
abbrev pub same_lane : Lane → Lane → Bool
same_lane x y = same_bucket x.bucket y.bucket && same_flag x.bound y.bound

-- the lane of a thread
abbrev pub lane_of : Facts → Lane
lane_of t = record { bucket = t.bucket; bound = is_some t.bound }

-- whether an entry stands in a lane
abbrev pub in_lane : Lane → Queued → Bool
in_lane l e = same_lane (lane_of e.facts) l

-- whether a lane has entries
abbrev pub has_entries : Flat → Lane → Bool
has_entries s l = list_any (in_lane l) s.entries

-- a clutch bucket: one group's unbound entries of one bucket
pub record Clutch : Type 0 where
  pub group : ℕ
  pub bucket : Bucket

-- the clutch bucket of an unbound thread
abbrev pub clutch_of : Facts → Clutch
clutch_of t = record { group = t.group; bucket = t.bucket }

-- where a clutch bucket's numbers stand
abbrev pub clutch_place : Clutch → ℕ
clutch_place k = k.group * 6 + index k.bucket

-- nothing used, and never blocked
abbrev pub no_spans : Spans
no_spans = record { used = 0; blocked = 0 }

-- what the clutch bucket used and for how long it was blocked
abbrev pub spans_of : Flat → Clutch → Spans
spans_of s k = slice_index_or s.spans (clutch_place k) no_spans

-- the turn of a clutch bucket, if it has one
abbrev pub turn_of : Flat → Clutch → Option ℕ
turn_of s k = slice_index_or s.turns (clutch_place k) None

-- whether an entry stands in a clutch bucket
abbrev pub in_clutch : Clutch → Queued → Bool
in_clutch k e = not (is_some e.facts.bound) && ((e.facts.group == k.group) && same_bucket e.facts.bucket k.bucket)

-- the entries of a clutch bucket
abbrev pub clutch_entries : Flat → Clutch → List Queued
clutch_entries s k = filter (in_clutch k) s.entries

-- the entries of a lane
abbrev pub lane_entries : Flat → Lane → List Queued
lane_entries s l = filter (in_lane l) s.entries

-- a unit: the entries of a thread's bound lane, or of its clutch bucket
abbrev pub unit_entries : Flat → Facts → List Queued
unit_entries s t = if is_some t.bound then lane_entries s (lane t.bucket true) else clutch_entries s (clutch_of t)
