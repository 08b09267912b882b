-- Entering a queue, leaving it, and being picked from it.
use Rattle.std.specs.List.{list_any}
use Rattle.std.specs.Prelude.{Bool, List, None, Option, Some, [], filter, if◌then◌else◌, is_some, length, not, option_and_then, slice_set, true, ℕ, ◌&&◌, ◌++◌, ◌+◌, ◌==◌, ◌||◌, ◌∷◌}
use Rattle.sched_base.specs.Facts.{settled}
use Rattle.sched_base.specs.declared.Facts.{Facts}
use Rattle.bucket_tables.specs.declared.Lane.{Lane}
use Rattle.flat_policy.specs.declared.setup.Times.{Times}
use Rattle.flat_policy.specs.Policy.Precedence.{clutch_priority, precedes_in_lane}
use Rattle.flat_policy.specs.Policy.Queue.{Clutch, Flat, LaneState, Queued, clutch_entries, clutch_of, clutch_place, has_entries, in_lane, lane_of, order_number, spans_of, unit_entries}
use Rattle.flat_policy.specs.Policy.Unpreceded.{unpreceded}
use Rattle.flat_policy.specs.Policy.Usage.{Spans, decay, priority, with_spans}
use Rattle.flat_policy.specs.Policy.Windows.{Choice, at_lane, chosen, expired, renewed_deadline, windows_after}

-- a thread as it enters: its usage decayed to now, and its pending spans taken
abbrev pub settled_thread : ℕ → Facts → Facts
settled_thread now t = record t { usage = decay t.usage t.seen now; seen = now; pending_ran = 0; pending_blocked = 0 }

-- the numbers of a clutch bucket after an unbound thread's pending spans are added; a bound thread's are added nowhere
abbrev pub spans_with : Flat → Facts → List Spans
spans_with s t =
    if is_some t.bound then s.spans
    else slice_set s.spans (clutch_place (clutch_of t)) (with_spans (spans_of s (clutch_of t)) t.pending_ran t.pending_blocked)

-- the entry that a thread gets
abbrev pub new_entry : Flat → Facts → Bool → Queued
new_entry s settled head = record {
  facts = settled;
  pri = priority settled.base settled.bucket settled.usage (length (unit_entries s settled) + 1);
  arrival = s.next_arrival;
  order = order_number head s.next_arrival;
}

-- a lane that was empty gets a deadline and loses its starvation window; its warp stays
abbrev pub lanes_filled : List Times → ℕ → Flat → Lane → List LaneState
lanes_filled ts now s at = if has_entries s at then s.lanes else at_lane at (renewed_deadline ts now) s.lanes

-- a clutch bucket takes the next turn
abbrev pub with_next_turn : Clutch → Flat → Flat
with_next_turn k s = record s { turns = slice_set s.turns (clutch_place k) (Some s.next_turn); next_turn = s.next_turn + 1 }

-- a clutch bucket has no turn
abbrev pub without_turn : Clutch → Flat → Flat
without_turn k s = record s { turns = slice_set s.turns (clutch_place k) None }

-- whether a clutch bucket has entries
abbrev pub clutch_has_entries : Flat → Clutch → Bool
clutch_has_entries s k = list_any (λ (e : Queued). true) (clutch_entries s k)

-- the clutch bucket that was empty before, or whose priority is not the one before, takes the next turn
abbrev pub turn_on_entering : Flat → Clutch → Flat → Flat
turn_on_entering before k s =
    if not (clutch_has_entries before k) || not (clutch_priority before k == clutch_priority s k) then with_next_turn k s else s

-- the queue with the thread's entry, before the turn
abbrev pub with_entry : List Times → Facts → Bool → ℕ → Flat → Flat
with_entry ts t head now s = record s {
  entries = s.entries ++ new_entry s (settled_thread now t) head ∷ [];
  spans = spans_with s t;
  lanes = lanes_filled ts now s (lane_of t);
  last = now;
  next_arrival = s.next_arrival + 1;
}

-- the queue after a thread enters, at the head or the tail
abbrev pub entered : List Times → Facts → Bool → ℕ → Flat → Flat
entered ts t head now s =
    let after : Flat = with_entry ts t head now s
    in if is_some t.bound then after else turn_on_entering s (clutch_of t) after

-- the entries without that of one arrival
abbrev pub without : ℕ → List Queued → List Queued
without arrival es = filter (λ (e : Queued). not (e.arrival == arrival)) es

-- the queue without an entry, before the turn
abbrev pub without_entry : Queued → ℕ → Flat → Flat
without_entry e now s = record s { entries = without e.arrival s.entries; last = now }

-- the turn after a removal: none where no entry remains, the next one where the priority changed
abbrev pub turn_on_leaving : Flat → Clutch → Flat → Flat
turn_on_leaving before k s =
    if not (clutch_has_entries s k) then without_turn k s
    else (if clutch_priority before k == clutch_priority s k then s else with_next_turn k s)

-- the turn after a selection: none where no entry remains, otherwise the next one
abbrev pub turn_on_selection : Clutch → Flat → Flat
turn_on_selection k s = if clutch_has_entries s k then with_next_turn k s else without_turn k s

-- the queue after an entry is taken out otherwise than by a selection
abbrev pub removed : Queued → ℕ → Flat → Flat
removed e now s =
    let after : Flat = without_entry e now s
    in if is_some e.facts.bound then after else turn_on_leaving s (clutch_of e.facts) after

-- the queue after an entry is selected
abbrev pub removed_by_selection : Queued → ℕ → Flat → Flat
removed_by_selection e now s =
    let after : Flat = without_entry e now s
    in if is_some e.facts.bound then after else turn_on_selection (clutch_of e.facts) after

-- one entry goes before another in the cluster: the chosen lane first, and in it by unit and entry
abbrev pub goes_before : Flat → Lane → Queued → Queued → Bool
goes_before s at x y = in_lane at x && (not (in_lane at y) || precedes_in_lane s x y)

-- the pick of a chosen lane: the entry that no other goes before
abbrev pub pick_in : Flat → Lane → Option Queued
pick_in s at = unpreceded (goes_before s at) s.entries

-- the pick of a queue at a moment; none where it has no entries
abbrev pub pick : List Times → ℕ → Flat → Option Queued
pick ts now s = option_and_then (λ (c : Choice). pick_in (expired ts s now) c.lane) (chosen ts (expired ts s now))

-- the queue after its pick is selected
abbrev pub selected_by : List Times → ℕ → Flat → Option Choice → Option Queued → Flat
selected_by ts now s (Some c) (Some e) = windows_after ts now c.kind c.lane (removed_by_selection e now s)
selected_by ts now s (Some c) None = record s { last = now }
selected_by ts now s None picked = record s { last = now }

-- the queue after a select of a cluster that is on; windows expire also where nothing is queued
abbrev pub selected : List Times → ℕ → Flat → Flat
selected ts now s = selected_by ts now (expired ts s now) (chosen ts (expired ts s now)) (pick ts now s)
