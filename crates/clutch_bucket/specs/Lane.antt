-- The units of one unbound lane, one for each group, and the queue of a cluster that they follow.
use Rattle.std.specs.List.{sum_by}
use Rattle.std.specs.Prelude.{Bool, Contains, List, None, Option, Some, false, if◌then◌else◌, length, map, slice_index_or, slice_set, true, ℕ, [], ◌*◌, ◌++◌, ◌+◌, ◌<◌, ◌∷◌, ◌≡◌, ◌≢◌, ◌≤◌}
use Rattle.sched_base.specs.declared.Bucket.{Bucket}
use Rattle.flat_policy.specs.Policy.Moves.{turn_on_entering, turn_on_leaving, turn_on_selection, without}
use Rattle.flat_policy.specs.Policy.Queue.{Clutch, Flat, Queued, clutch_entries, clutch_of, clutch_place, in_clutch, in_lane, lane, lane_entries, no_spans, spans_of, turn_of}
use Rattle.flat_policy.specs.Policy.Precedence.{precedes_in_lane}
use Rattle.flat_policy.specs.Policy.Refresh.{repriced}
use Rattle.flat_policy.specs.Policy.Unpreceded.{unpreceded}
use Rattle.flat_policy.specs.Policy.Usage.{Spans, score, with_spans}
use Rattle.sched_base.specs.Limits.{most_base}
use Rattle.link_arena.specs.Arena.{Arena, links_at, value_at}
use Rattle.thread_queue.specs.Item.{entry_of}
use Rattle.thread_queue.specs.Laws.{AreEntries, StaysIn}
use Rattle.thread_queue.specs.Queue.{HasSlot, LacksSlot, Queue, StandsIn}
use Rattle.thread_queue.specs.declared.item.Item.{Item}
use Rattle.clutch_bucket.specs.declared.ranks.UnitKey.{UnitKey}

-- the units of a lane, by group: their queues, what they used and were blocked, and their keys; and how many entries they have together
pub record Lane : Type 0 where
  pub bucket : Bucket
  pub queues : List Queue
  pub spans : List Spans
  pub ranks : List (Option UnitKey)
  pub len : ℕ

-- a queue with no slot
abbrev pub no_queue : Queue
no_queue = record { root = None; count = 0 }

-- for how many groups a lane has units
abbrev pub groups : Lane → ℕ
groups lane = length lane.queues

-- the queue of a group's unit
abbrev pub queue_at : Lane → ℕ → Queue
queue_at lane group = slice_index_or lane.queues group no_queue

-- what a group's unit used and for how long it was blocked
abbrev pub spans_at : Lane → ℕ → Spans
spans_at lane group = slice_index_or lane.spans group no_spans

-- the key of a group's unit, if it has one
abbrev pub rank_at : Lane → ℕ → Option UnitKey
rank_at lane group = slice_index_or lane.ranks group None

-- the clutch bucket of a group's unit
abbrev pub unit_of : Lane → ℕ → Clutch
unit_of lane group = record { group = group; bucket = lane.bucket }

-- the priority in a key
abbrev pub rank_pri : Option UnitKey → Option ℕ
rank_pri None = None
rank_pri (Some key) = Some key.pri

-- the turn in a key
abbrev pub rank_turn : Option UnitKey → Option ℕ
rank_turn None = None
rank_turn (Some key) = Some key.turn

-- the priority of a unit whose first slot holds this item
abbrev pub item_top : Bucket → Spans → Option Item → Option ℕ
item_top bucket spans None = None
item_top bucket spans (Some item) = Some (item.pri + score spans.used spans.blocked bucket)

-- the priority of a unit, by the item at the first slot of its queue; none where it is empty
abbrev pub slot_top : Arena Item → Bucket → Spans → Option ℕ → Option ℕ
slot_top arena bucket spans None = None
slot_top arena bucket spans (Some slot) = item_top bucket spans (value_at arena slot)

-- the priority of a group's unit; none where it is empty
abbrev pub top_at : Arena Item → Lane → ℕ → Option ℕ
top_at arena lane group = slot_top arena lane.bucket (spans_at lane group) (queue_at lane group).root

-- what holds of each item of a clutch bucket's unit: it is of the clutch bucket, of no priority above the highest, and with no pending span
pub record UnitItem (k : Clutch) (item : Item) : Type 0 where
  pub within : in_clutch k (entry_of item) ≡ true
  pub small : item.pri ≤ most_base
  pub ran : item.thread.pending_ran ≡ 0
  pub blocked : item.thread.pending_blocked ≡ 0

-- a queue stands, and its slots hold items of this clutch bucket
pub record UnitStands (arena : Arena Item) (k : Clutch) (queue : Queue) : Type 0 where
  pub stands : StandsIn arena queue
  pub each : (slot : ℕ) (item : Item) → HasSlot arena queue slot → value_at arena slot ≡ Some item → UnitItem k item

-- each unit stands, with spans and a place for a key, and the lane counts the slots of all
pub record UnitsStand (arena : Arena Item) (lane : Lane) : Type 0 where
  pub spans : length lane.spans ≡ groups lane
  pub ranks : length lane.ranks ≡ groups lane
  pub each : (group : ℕ) → group < groups lane → UnitStands arena (unit_of lane group) (queue_at lane group)
  pub counted : lane.len ≡ sum_by (λ (queue : Queue). queue.count) lane.queues

-- the units stand, and those that are not empty, and no others, have a key, with their priority
pub record LaneStands (arena : Arena Item) (lane : Lane) : Type 0 where
  pub units : UnitsStand arena lane
  pub ranks : (group : ℕ) → group < groups lane → rank_pri (rank_at lane group) ≡ top_at arena lane group

-- some queue of the lane has the slot
abbrev pub HasLaneSlot : Arena Item → Lane → ℕ → Type 0
HasLaneSlot arena lane slot = (group : ℕ) × ((group < groups lane) × HasSlot arena (queue_at lane group) slot)

-- no queue of the lane has the slot
abbrev pub LacksLaneSlot : Arena Item → Lane → ℕ → Type 0
LacksLaneSlot arena lane slot = (group : ℕ) → group < groups lane → LacksSlot arena (queue_at lane group) slot

-- the queue has none of the lane's slots
abbrev pub IsApartFrom : Arena Item → Lane → Queue → Type 0
IsApartFrom arena lane other = (slot : ℕ) → HasSlot arena other slot → LacksLaneSlot arena lane slot

-- no two slots of the queue hold entries of one arrival
abbrev pub ArrivalsDiffer : Arena Item → Queue → Type 0
ArrivalsDiffer arena queue =
    (slot other : ℕ) (item rival : Item) → HasSlot arena queue slot → HasSlot arena queue other → value_at arena slot ≡ Some item → value_at arena other ≡ Some rival
    → item.arrival ≡ rival.arrival → slot ≡ other

-- a unit's slots hold the entries of a clutch bucket, each once, and its spans are those of the clutch bucket
pub record UnitFollows (arena : Arena Item) (queue : Queue) (used : Spans) (s : Flat) (k : Clutch) : Type 0 where
  pub entries : AreEntries arena queue (clutch_entries s k)
  pub count : queue.count ≡ length (clutch_entries s k)
  pub apart : ArrivalsDiffer arena queue
  pub spans : spans_of s k ≡ used

-- the units are the clutch buckets of the cluster's queue, but for their keys
pub record UnitsFollow (arena : Arena Item) (at : Lane) (s : Flat) : Type 0 where
  pub each : (group : ℕ) → group < groups at → UnitFollows arena (queue_at at group) (spans_at at group) s (unit_of at group)
  pub len : at.len ≡ length (lane_entries s (lane at.bucket false))
  pub span_places : length s.spans ≡ groups at * 6
  pub turn_places : length s.turns ≡ groups at * 6

-- the lane stands, and its units are the clutch buckets of the cluster's queue, with their turns
pub record Follows (arena : Arena Item) (at : Lane) (s : Flat) : Type 0 where
  pub stands : LaneStands arena at
  pub units : UnitsFollow arena at s
  pub turns : (group : ℕ) → group < groups at → turn_of s (unit_of at group) ≡ rank_turn (rank_at at group)

-- the item may enter the lane: it is of the lane's bucket and unbound, its group and priority are in range, and it has no pending span
pub record MayEnter (at : Lane) (item : Item) : Type 0 where
  pub within : in_lane (lane at.bucket false) (entry_of item) ≡ true
  pub group : item.thread.group < groups at
  pub small : item.pri ≤ most_base
  pub ran : item.thread.pending_ran ≡ 0
  pub blocked : item.thread.pending_blocked ≡ 0

-- no entry of the queue has the item's arrival
abbrev pub IsNew : Flat → Item → Type 0
IsNew s item = (e : Queued) → Contains s.entries e → e.arrival ≢ item.arrival

-- the queue after an unbound item enters with its run span and blocked span: its entry comes last, the spans are added, and its clutch bucket's turn goes by the rule
abbrev pub with_unit_entry : ℕ → ℕ → Item → Flat → Flat
with_unit_entry ran blocked item s =
    let k : Clutch = clutch_of item.thread
    in let after : Flat = record s { entries = s.entries ++ entry_of item ∷ []; spans = slice_set s.spans (clutch_place k) (with_spans (spans_of s k) ran blocked) }
    in turn_on_entering s k after

-- the queue after an unbound item leaves, picked or not, and its clutch bucket's turn goes by the rule
abbrev pub without_unit_entry : Bool → Item → Flat → Flat
without_unit_entry picked item s =
    let k : Clutch = clutch_of item.thread
    in let after : Flat = record s { entries = without item.arrival s.entries }
    in if picked then turn_on_selection k after else turn_on_leaving s k after

-- the entries of a bucket's unbound lane are priced anew by the queue before, and all else that concerns the lane stays
pub record LanePriced (groups now : ℕ) (s priced : Flat) (b : Bucket) : Type 0 where
  pub entries : (group : ℕ) → group < groups
      → clutch_entries priced (record { group = group; bucket = b }) ≡ map (repriced s now) (clutch_entries s (record { group = group; bucket = b }))
  pub spans : priced.spans ≡ s.spans
  pub turns : (group : ℕ) → group < groups → turn_of priced (record { group = group; bucket = b }) ≡ turn_of s (record { group = group; bucket = b })
  pub turn_places : length priced.turns ≡ length s.turns
  pub len : length (lane_entries priced (lane b false)) ≡ length (lane_entries s (lane b false))

-- the slot holds what pricing anew makes of its entry
abbrev pub HoldsRepriced : Arena Item → Flat → ℕ → ℕ → Item → Type 0
HoldsRepriced new s now slot item = (later : Item) × ((value_at new slot ≡ Some later) × (entry_of later ≡ repriced s now (entry_of item)))

-- the lane is of the same bucket and the same groups
pub record SameGroups (before later : Lane) : Type 0 where
  pub bucket : later.bucket ≡ before.bucket
  pub groups : groups later ≡ groups before

-- values, links of set 1 and spare slots stay
pub record OnlyQueuesChange (old new : Arena Item) : Type 0 where
  pub values : (slot : ℕ) → value_at new slot ≡ value_at old slot
  pub second : (slot : ℕ) → links_at new 1 slot ≡ links_at old 1 slot
  pub spare : new.spare ≡ old.spare

-- the queue stands as it stood, and has none of the lane's slots still
pub record StaysFrom (old new : Arena Item) (later : Lane) (other : Queue) : Type 0 where
  pub stays : StaysIn old new other
  pub apart : IsApartFrom new later other

-- each queue that has none of the lane's slots stands as it stood
abbrev pub OtherQueuesStay : Arena Item → Arena Item → Lane → Lane → Type 0
OtherQueuesStay old new before later = (other : Queue) → StandsIn old other → IsApartFrom old before other → StaysFrom old new later other

-- each queue that has none of the lane's slots, nor this one, stands as it stood
abbrev pub OtherQueuesStayBut : Arena Item → Arena Item → Lane → Lane → ℕ → Type 0
OtherQueuesStayBut old new before later slot =
    (other : Queue) → StandsIn old other → IsApartFrom old before other → LacksSlot old other slot → StaysFrom old new later other

-- the lane's slot holds the first entry of the cluster's lane
pub record IsBest (arena : Arena Item) (at : Lane) (s : Flat) (slot : ℕ) : Type 0 where
  pub held : HasLaneSlot arena at slot
  pub item : Item
  pub stored : value_at arena slot ≡ Some item
  pub best : unpreceded (precedes_in_lane s) (lane_entries s (lane at.bucket false)) ≡ Some (entry_of item)
