-- Which entry of a unit goes first, which clutch bucket of a lane, and what a unit's priority is.
use Rattle.std.specs.Prelude.{Bool, List, None, Option, Some, false, fold, if◌then◌else◌, int_lt, is_some, map, max, nat_lt, true, ℕ, ◌&&◌, ◌+◌, ◌==◌, ◌||◌}
use Rattle.sched_base.specs.declared.Bucket.{Bucket}
use Rattle.sched_base.specs.declared.Facts.{Facts}
use Rattle.flat_policy.specs.Policy.Queue.{Clutch, Flat, Queued, clutch_entries, clutch_of, lane, lane_entries, spans_of, turn_of}
use Rattle.flat_policy.specs.Policy.Usage.{bound_score, score}

-- in one unit: the greater priority goes first, and at one priority the lower order number
abbrev pub precedes : Queued → Queued → Bool
precedes x y = nat_lt y.pri x.pri || ((x.pri == y.pri) && int_lt x.order y.order)

-- the greatest of some numbers, 0 of none
abbrev pub greatest : List ℕ → ℕ
greatest xs = fold max 0 xs

-- the greatest priority of some entries
abbrev pub greatest_pri : List Queued → ℕ
greatest_pri es = greatest (map (λ (e : Queued). e.pri) es)

-- the priority of a clutch bucket: the greatest of its entries' priorities, and its score
abbrev pub clutch_priority : Flat → Clutch → ℕ
clutch_priority s k = greatest_pri (clutch_entries s k) + score (spans_of s k).used (spans_of s k).blocked k.bucket

-- the priority of a bound unit
abbrev pub bound_priority : Flat → Bucket → ℕ
bound_priority s b = greatest_pri (lane_entries s (lane b true)) + bound_score b

-- the priority of a thread's unit
abbrev pub unit_priority : Flat → Facts → ℕ
unit_priority s t = if is_some t.bound then bound_priority s t.bucket else clutch_priority s (clutch_of t)

-- whether one turn is lower than another
abbrev pub turn_before : Option ℕ → Option ℕ → Bool
turn_before None other = false
turn_before (Some turn) None = false
turn_before (Some turn) (Some other) = nat_lt turn other

-- in one unbound lane: the clutch bucket of greater priority goes first, and at one priority the one of lower turn
abbrev pub clutch_precedes : Flat → Clutch → Clutch → Bool
clutch_precedes s k l =
    nat_lt (clutch_priority s l) (clutch_priority s k)
    || ((clutch_priority s k == clutch_priority s l) && turn_before (turn_of s k) (turn_of s l))

-- whether two threads of one lane stand in one unit
abbrev pub in_one_unit : Facts → Facts → Bool
in_one_unit x y = is_some x.bound || (x.group == y.group)

-- in one lane: by unit, and in one unit by entry
abbrev pub precedes_in_lane : Flat → Queued → Queued → Bool
precedes_in_lane s x y = if in_one_unit x.facts y.facts then precedes x y else clutch_precedes s (clutch_of x.facts) (clutch_of y.facts)
