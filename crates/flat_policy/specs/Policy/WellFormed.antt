-- What holds of every queue that steps can reach.
use Rattle.std.specs.List.{list_any}
use Rattle.std.specs.Prelude.{List, None, Option, Some, [], is_some, length, map, negsuc, pos, ℕ, ◌*◌, ◌<◌, ◌^◌, ◌∷◌, ◌≡◌, ◌≢◌, ◌≤◌, ◌⊎◌}
use Rattle.flat_policy.specs.Policy.Queue.{Clutch, Flat, LaneState, Queued, in_clutch, spans_of, timeshare_lanes, turn_of}
use Rattle.flat_policy.specs.Policy.Usage.{Spans}
use Rattle.sched_base.specs.Limits.{most_base, most_threads}

-- a fact of each entry
abbrev pub EachQueued : (Queued → Type 0) → List Queued → Type 0
EachQueued P [] = Unit {0}
EachQueued P (e ∷ es) = P e × EachQueued P es

-- arrivals strictly rise, so that no two are alike
abbrev pub ArrivalsRise : List Queued → Type 0
ArrivalsRise [] = Unit {0}
ArrivalsRise (e ∷ es) = EachQueued (λ (f : Queued). e.arrival < f.arrival) es × ArrivalsRise es

-- an order number is its entry's arrival, or -1 minus it
abbrev pub HasOrderNumber : Queued → Type 0
HasOrderNumber e = (e.order ≡ pos e.arrival) ⊎ (e.order ≡ negsuc e.arrival)

-- a turn that is there is below a number
abbrev pub TurnBelow : ℕ → Option ℕ → Type 0
TurnBelow next None = Unit {0}
TurnBelow next (Some turn) = turn < next

-- two turns that are there differ
abbrev pub TurnsDiffer : Option ℕ → Option ℕ → Type 0
TurnsDiffer None other = Unit {0}
TurnsDiffer (Some turn) None = Unit {0}
TurnsDiffer (Some turn) (Some other) = turn ≢ other

-- what a clutch bucket used and for how long it was blocked stay below 2^30
pub record SmallSpans (s : Spans) : Type 0 where
  pub used : s.used < 2 ^ 30
  pub blocked : s.blocked < 2 ^ 30

-- what every queue keeps that steps can reach, of a setup with so many groups, where it has no more entries than a limit
pub record WellFormedWithin (limit groups : ℕ) (s : Flat) : Type 0 where
  pub few : length s.entries ≤ limit
  pub arrivals_rise : ArrivalsRise s.entries
  pub arrivals_below : EachQueued (λ (e : Queued). e.arrival < s.next_arrival) s.entries
  pub order_numbers : EachQueued HasOrderNumber s.entries
  pub groups_below : EachQueued (λ (e : Queued). e.facts.group < groups) s.entries
  pub bases_within : EachQueued (λ (e : Queued). e.facts.base ≤ most_base) s.entries
  pub priorities_within : EachQueued (λ (e : Queued). e.pri ≤ most_base) s.entries
  pub turns_below : (k : Clutch) → TurnBelow s.next_turn (turn_of s k)
  pub turns_differ : (k l : Clutch) → k ≢ l → k.group < groups → l.group < groups → TurnsDiffer (turn_of s k) (turn_of s l)
  pub turns_where_entries : (k : Clutch) → k.group < groups → is_some (turn_of s k) ≡ list_any (in_clutch k) s.entries
  pub spans_length : length s.spans ≡ groups * 6
  pub spans_small : (k : Clutch) → SmallSpans (spans_of s k)
  pub turns_length : length s.turns ≡ groups * 6
  pub ten_lanes : map (λ (l : LaneState). l.lane) s.lanes ≡ timeshare_lanes

-- the same with the limit of how many threads may live
abbrev pub WellFormed : ℕ → Flat → Type 0
WellFormed groups s = WellFormedWithin most_threads groups s
