-- Which lane is chosen: expiry, the test above UI, deadlines, warps and starvation windows.
use Rattle.std.specs.Prelude.{Bool, List, None, Option, Some, [], false, filter, if◌then◌else◌, map, max, nat_le, nat_lt, not, option_map, true, ℕ, ◌&&◌, ◌+◌, ◌==◌, ◌||◌, ◌∷◌}
use Rattle.sched_base.specs.Bucket.{index}
use Rattle.sched_base.specs.declared.Bucket.{Bucket}
use Rattle.sched_base.specs.declared.Bucket.TheVariants.{Fg, Ui}
use Rattle.bucket_tables.specs.declared.Lane.{Lane}
use Rattle.flat_policy.specs.declared.lanes.Kind.{Kind}
use Rattle.flat_policy.specs.declared.lanes.Kind.TheVariants.{Natural, Pass, Starve}
use Rattle.flat_policy.specs.declared.lanes.Starved.{Starved}
use Rattle.flat_policy.specs.declared.lanes.Starved.TheVariants.{No, Since}
use Rattle.flat_policy.specs.declared.lanes.Warp.{Warp}
use Rattle.flat_policy.specs.declared.lanes.Warp.TheVariants.{Spent, Until, Unused}
use Rattle.flat_policy.specs.declared.setup.Times.{Times}
use Rattle.flat_policy.specs.Policy.Precedence.{greatest, unit_priority}
use Rattle.flat_policy.specs.Policy.Queue.{Flat, LaneState, Queued, has_entries, lane, lane_entries, same_lane}
use Rattle.flat_policy.specs.Policy.Setup.{times_for}
use Rattle.flat_policy.specs.Policy.Unpreceded.{unpreceded}

-- a warp whose end has come is spent
abbrev pub expired_warp : ℕ → Warp → Warp
expired_warp now Unused = Unused
expired_warp now (Until end) = if nat_le end now then Spent else Until end
expired_warp now Spent = Spent

-- whether a starvation window has lasted for the quantum
abbrev pub window_over : ℕ → ℕ → Starved → Bool
window_over quantum now No = false
window_over quantum now (Since start) = nat_le (start + quantum) now

-- the lane gets a new deadline and loses its starvation window
abbrev pub renewed_deadline : List Times → ℕ → LaneState → LaneState
renewed_deadline ts now l = record l { deadline = now + (times_for ts l.lane.bucket).wcel; starved = No }

-- a lane after its windows expire
abbrev pub expired_window : List Times → ℕ → LaneState → LaneState
expired_window ts now l =
    let warped : LaneState = record l { warp = expired_warp now l.warp }
    in if window_over (times_for ts l.lane.bucket).quantum now l.starved then renewed_deadline ts now warped else warped

-- the queue after all windows expire
abbrev pub expired : List Times → Flat → ℕ → Flat
expired ts s now = record s { lanes = map (expired_window ts now) s.lanes }

-- the greatest unit priority in a lane, 0 where it has no entries
abbrev pub lane_priority : Flat → Lane → ℕ
lane_priority s l = greatest (map (λ (e : Queued). unit_priority s e.facts) (lane_entries s l))

-- the greatest unit priority in a bucket's bound and unbound lane
abbrev pub bucket_priority : Flat → Bucket → ℕ
bucket_priority s b = max (lane_priority s (lane b true)) (lane_priority s (lane b false))

-- whether a bucket's bound or unbound lane has entries
abbrev pub bucket_has_entries : Flat → Bucket → Bool
bucket_has_entries s b = has_entries s (lane b true) || has_entries s (lane b false)

-- whether UI goes before all timeshare lanes
abbrev pub ui_goes_first : Flat → Bool
ui_goes_first s = bucket_has_entries s Ui && (not (bucket_has_entries s Fg) || nat_le (bucket_priority s Fg) (bucket_priority s Ui))

-- the UI lane of greater unit priority, the bound one on a tie
abbrev pub better_ui_lane : Flat → Lane
better_ui_lane s = lane Ui (nat_le (lane_priority s (lane Ui false)) (lane_priority s (lane Ui true)))

-- the UI lane that goes before all timeshare lanes, where one does
abbrev pub above_ui : Flat → Option Lane
above_ui s = if ui_goes_first s then Some (better_ui_lane s) else None

-- the timeshare lanes with entries
abbrev pub filled_lanes : Flat → List LaneState
filled_lanes s = filter (λ (l : LaneState). has_entries s l.lane) s.lanes

-- a lane stands higher by bucket index, and in one bucket the bound one
abbrev pub stands_higher : Lane → Lane → Bool
stands_higher x y = nat_lt (index x.bucket) (index y.bucket) || ((index x.bucket == index y.bucket) && (x.bound && not y.bound))

-- a lane is due before another by deadline, and at one deadline the higher one
abbrev pub due_before : LaneState → LaneState → Bool
due_before x y = nat_lt x.deadline y.deadline || ((x.deadline == y.deadline) && stands_higher x.lane y.lane)

-- of some lanes, the one that is due first
abbrev pub earliest_of : List LaneState → Option LaneState
earliest_of filled = unpreceded due_before filled

-- of some lanes, those whose bucket is higher than that of a lane
abbrev pub higher_of : List LaneState → LaneState → List LaneState
higher_of filled e = filter (λ (l : LaneState). nat_lt (index l.lane.bucket) (index e.lane.bucket)) filled

-- a warp that is not spent
abbrev pub unspent : Warp → Bool
unspent Unused = true
unspent (Until end) = true
unspent Spent = false

-- whether a lane may pass an earlier deadline: its bucket has a warp, and that is not spent
abbrev pub may_pass : List Times → LaneState → Bool
may_pass ts l = not ((times_for ts l.lane.bucket).warp == 0) && unspent l.warp

-- of some lanes, the highest that may pass e
abbrev pub passing_of : List Times → List LaneState → LaneState → Option LaneState
passing_of ts filled e = unpreceded (λ (x y : LaneState). stands_higher x.lane y.lane) (filter (may_pass ts) (higher_of filled e))

-- a choice: the lane, and how it came to be chosen; a UI lane has no kind
pub record Choice : Type 0 where
  pub lane : Lane
  pub kind : Option Kind

-- the choice of the lane due first: starved where a higher lane has entries
abbrev pub chosen_behind : Bool → LaneState → Choice
chosen_behind true e = record { lane = e.lane; kind = Some Starve }
chosen_behind false e = record { lane = e.lane; kind = Some Natural }

-- whether there is a higher lane
abbrev pub some_higher : List LaneState → Bool
some_higher [] = false
some_higher (l ∷ ls) = true

-- the choice against the lane due first: a lane that may pass it, if there is one, otherwise that lane itself
abbrev pub choice_against : Option LaneState → List LaneState → LaneState → Choice
choice_against (Some l) filled e = record { lane = l.lane; kind = Some Pass }
choice_against None filled e = chosen_behind (some_higher (higher_of filled e)) e

-- the choice among some lanes, which are those with entries
abbrev pub chosen_of : List Times → List LaneState → Option Choice
chosen_of ts filled = option_map (λ (e : LaneState). choice_against (passing_of ts filled e) filled e) (earliest_of filled)

-- the choice among the timeshare lanes with entries
abbrev pub chosen_by_deadline : List Times → Flat → Option Choice
chosen_by_deadline ts s = chosen_of ts (filled_lanes s)

-- the choice where a UI lane goes before all others, and where none does
abbrev pub chosen_under : Option Lane → List Times → Flat → Option Choice
chosen_under (Some l) ts s = Some (record { lane = l; kind = None })
chosen_under None ts s = chosen_by_deadline ts s

-- the choice of an expired queue; none where it has no entries
abbrev pub chosen : List Times → Flat → Option Choice
chosen ts s = chosen_under (above_ui s) ts s

-- an unused warp begins
abbrev pub begun_warp : ℕ → ℕ → Warp → Warp
begun_warp span now Unused = Until (now + span)
begun_warp span now (Until end) = Until end
begun_warp span now Spent = Spent

-- a starvation window opens where there is none
abbrev pub opened_window : ℕ → Starved → Starved
opened_window now No = Since now
opened_window now (Since start) = Since start

-- the chosen lane after the choice
abbrev pub window_after : List Times → ℕ → Kind → LaneState → LaneState
window_after ts now Pass l = record l { warp = begun_warp (times_for ts l.lane.bucket).warp now l.warp }
window_after ts now Starve l = record l { starved = opened_window now l.starved }
window_after ts now Natural l = renewed_deadline ts now (record l { warp = Unused })

-- one lane changes, and all others stay
abbrev pub at_lane : Lane → (LaneState → LaneState) → List LaneState → List LaneState
at_lane at f ls = map (λ (l : LaneState). if same_lane l.lane at then f l else l) ls

-- the queue after the window changes of a choice; a UI choice changes none
abbrev pub windows_after : List Times → ℕ → Option Kind → Lane → Flat → Flat
windows_after ts now None at s = s
windows_after ts now (Some kind) at s = record s { lanes = at_lane at (window_after ts now kind) s.lanes }
