-- The two laws on windows, as statements over every run of a cluster: how long a warp lasts, and how long a starvation window.
use Rattle.std.specs.List.{list_any}
use Rattle.std.specs.Option.{option_map_or}
use Rattle.std.specs.Prelude.{Bool, IsTrue, List, None, Option, Some, [], false, find, if◌then◌else◌, true, ℕ, ⊤, ◌+◌, ◌<◌, ◌∷◌, ◌≡◌, ◌≤◌}
use Rattle.sched_base.specs.declared.Act.{Act}
use Rattle.sched_base.specs.declared.Bucket.{Bucket}
use Rattle.sched_base.specs.declared.Facts.{Facts}
use Rattle.bucket_tables.specs.declared.Lane.{Lane}
use Rattle.flat_policy.specs.declared.journal.Line.{Line}
use Rattle.flat_policy.specs.declared.lanes.Kind.{Kind}
use Rattle.flat_policy.specs.declared.lanes.Kind.TheVariants.{Natural, Pass, Starve}
use Rattle.flat_policy.specs.declared.lanes.Starved.TheVariants.{No}
use Rattle.flat_policy.specs.declared.setup.Times.{Times}
use Rattle.flat_policy.specs.Policy.BuiltSetups.{IsSetup}
use Rattle.flat_policy.specs.Runs.Histories.{CRun, act_of, flat_after, moment_of}
use Rattle.flat_policy.specs.Policy.Queue.{Flat, LaneState, empty_flat, has_entries, lane_of, same_lane, timeshare_lanes}
use Rattle.flat_policy.specs.Policy.Setup.{SetupParts, cluster_count, cluster_times, group_count, times_for}
use Rattle.flat_policy.specs.Policy.Windows.{Choice, chosen, expired, window_over}
use Rattle.sched_base.specs.declared.Act.TheVariants as acts

-- how a policy lets windows expire: the queue at a moment, before a choice
abbrev pub Expiring : Type 0
Expiring = List Times → Flat → ℕ → Flat

-- what a line of a cluster is to the windows
pub data WindowEvent : Type 0 where
  -- a select of the cluster while it is on, at a moment
  select_at : ℕ → WindowEvent
  -- a thread enters a lane that was empty, at a moment
  lane_fills : ℕ → Lane → WindowEvent
  -- anything else
  no_event : WindowEvent

-- a select is an event only where the cluster is on
abbrev pub event_if_on : Bool → ℕ → WindowEvent
event_if_on true now = select_at now
event_if_on false now = no_event

-- an entering is an event only where the lane had no entries
abbrev pub event_if_empty : Bool → ℕ → Lane → WindowEvent
event_if_empty true now at = no_event
event_if_empty false now at = lane_fills now at

-- the event of the thread that a line enters
abbrev pub event_of_entering : Flat → ℕ → Option Facts → WindowEvent
event_of_entering s now None = no_event
event_of_entering s now (Some t) = event_if_empty (has_entries s (lane_of t)) now (lane_of t)

-- what a line is to the windows, by its act
abbrev pub window_event_by : Flat → Line → Act → WindowEvent
window_event_by s l (acts.Enter at head) = event_of_entering s (moment_of l) l.entry.thread
window_event_by s l acts.Select = event_if_on s.on (moment_of l)
window_event_by s l _ = no_event

-- what a line is to the windows of a queue
abbrev pub window_event : Flat → Line → WindowEvent
window_event s l = window_event_by s l (act_of l)

-- the choice of a lane by deadlines, if a choice is one
abbrev pub kind_at : Lane → Option Choice → Option Kind
kind_at at None = None
kind_at at (Some c) = if same_lane c.lane at then c.kind else None

-- the kind by which a select at a moment chooses a lane, if it does
abbrev pub chosen_kind : Expiring → List Times → Flat → ℕ → Lane → Option Kind
chosen_kind expiring ts s now at = kind_at at (chosen ts (expiring ts s now))

-- the state of a timeshare lane
abbrev pub lane_state : Flat → Lane → Option LaneState
lane_state s at = find (λ (l : LaneState). same_lane l.lane at) s.lanes

-- whether a lane's starvation window is over by a moment
abbrev pub window_ends : List Times → Flat → ℕ → Lane → Bool
window_ends ts s now at =
    option_map_or (λ (l : LaneState). window_over (times_for ts at.bucket).quantum now l.starved) (lane_state s at) false

-- the first Pass of a lane since its last Natural choice, and after a choice
abbrev pub first_pass_after : Option ℕ → ℕ → Option Kind → Option ℕ
first_pass_after first now None = first
first_pass_after first now (Some Natural) = None
first_pass_after first now (Some Starve) = first
first_pass_after None now (Some Pass) = Some now
first_pass_after (Some m) now (Some Pass) = Some m

-- a Pass lies within the warp that began with the first
abbrev pub PassIsWithin : ℕ → Option ℕ → ℕ → Option Kind → Type 0
PassIsWithin warp first now None = ⊤
PassIsWithin warp first now (Some Natural) = ⊤
PassIsWithin warp first now (Some Starve) = ⊤
PassIsWithin warp None now (Some Pass) = now < now + warp
PassIsWithin warp (Some m) now (Some Pass) = now < m + warp

-- the first Pass of a lane, after an event
abbrev pub first_pass_by : List Times → Flat → Lane → Option ℕ → WindowEvent → Option ℕ
first_pass_by ts s at first (select_at now) = first_pass_after first now (chosen_kind expired ts s now at)
first_pass_by ts s at first (lane_fills now filled) = first
first_pass_by ts s at first no_event = first

-- an event keeps the warp of a lane
abbrev pub EventKeepsWarp : List Times → Flat → Lane → Option ℕ → WindowEvent → Type 0
EventKeepsWarp ts s at first (select_at now) = PassIsWithin (times_for ts at.bucket).warp first now (chosen_kind expired ts s now at)
EventKeepsWarp ts s at first (lane_fills now filled) = ⊤
EventKeepsWarp ts s at first no_event = ⊤

-- every Pass of a lane, from a state on, lies within its warp; first is the first Pass since the last Natural choice
abbrev pub WarpKept : SetupParts → ℕ → Lane → Option ℕ → Flat → List Line → Type 0
WarpKept setup c at first s [] = ⊤
WarpKept setup c at first s (l ∷ ls) =
    EventKeepsWarp (cluster_times setup c) s at first (window_event s l)
    × WarpKept setup c at (first_pass_by (cluster_times setup c) s at first (window_event s l)) (flat_after setup c s l) ls

-- a lane is one of the ten
abbrev pub IsTimeshare : Lane → Type 0
IsTimeshare at = IsTrue (list_any (same_lane at) timeshare_lanes)

-- the warp law: in every run of a cluster, the Pass selections of a lane between two Natural ones lie within WARP of the first of them
abbrev pub WarpLaw : Type 0
WarpLaw =
    (setup : SetupParts) (c : ℕ) (at : Lane) (ls : List Line) (end : Flat)
    → IsTimeshare at → CRun setup c ls end → WarpKept setup c at None (empty_flat (group_count setup)) ls

-- the first Starve choice of a lane since a renewal, after a choice
abbrev pub first_starve_after : Option ℕ → ℕ → Option Kind → Option ℕ
first_starve_after first now None = first
first_starve_after first now (Some Natural) = None
first_starve_after first now (Some Pass) = first
first_starve_after None now (Some Starve) = Some now
first_starve_after (Some m) now (Some Starve) = Some m

-- a Starve lies within the starvation window that began with the first
abbrev pub StarveIsWithin : ℕ → Option ℕ → ℕ → Option Kind → Type 0
StarveIsWithin quantum first now None = ⊤
StarveIsWithin quantum first now (Some Natural) = ⊤
StarveIsWithin quantum first now (Some Pass) = ⊤
StarveIsWithin quantum None now (Some Starve) = now < now + quantum
StarveIsWithin quantum (Some m) now (Some Starve) = now < m + quantum

-- a lane's deadline is renewed at a moment: its state has no starvation window, and is due WCEL later
abbrev pub IsRenewed : List Times → ℕ → Option LaneState → Type 0
IsRenewed ts now None = ⊥
IsRenewed ts now (Some l) = (l.starved ≡ No) × (l.deadline ≡ now + (times_for ts l.lane.bucket).wcel)

-- a select at the end of the window or later finds the window over
abbrev pub EndsInTime : ℕ → Option ℕ → ℕ → Bool → Type 0
EndsInTime quantum None now over = ⊤
EndsInTime quantum (Some m) now over = m + quantum ≤ now → IsTrue over

-- a Natural choice of a lane renews its deadline
abbrev pub NaturalRenews : List Times → ℕ → Option LaneState → Option Kind → Type 0
NaturalRenews ts now after None = ⊤
NaturalRenews ts now after (Some Natural) = IsRenewed ts now after
NaturalRenews ts now after (Some Pass) = ⊤
NaturalRenews ts now after (Some Starve) = ⊤

-- the first Starve choice since a renewal; none where the deadline was just renewed
abbrev pub unless_renewed : Bool → Option ℕ → Option ℕ
unless_renewed true first = None
unless_renewed false first = first

-- the first Starve choice since a renewal, after an event: the end of a window and an entering into the empty lane renew, too
abbrev pub first_starve_by : Expiring → List Times → Flat → Lane → Option ℕ → WindowEvent → Option ℕ
first_starve_by expiring ts s at first (select_at now) =
    first_starve_after (unless_renewed (window_ends ts s now at) first) now (chosen_kind expiring ts s now at)
first_starve_by expiring ts s at first (lane_fills now filled) = unless_renewed (same_lane filled at) first
first_starve_by expiring ts s at first no_event = first

-- a select keeps a lane's starvation window: it ends in time and so renews the deadline, a Starve lies within it, and a Natural choice renews the deadline
pub record SelectKeepsWindow (expiring : Expiring) (ts : List Times) (s next : Flat) (at : Lane) (first : Option ℕ) (now : ℕ) : Type 0 where
  pub in_time : EndsInTime (times_for ts at.bucket).quantum first now (window_ends ts s now at)
  pub ending_renews : IsTrue (window_ends ts s now at) → IsRenewed ts now (lane_state (expiring ts s now) at)
  pub within : StarveIsWithin (times_for ts at.bucket).quantum (unless_renewed (window_ends ts s now at) first) now (chosen_kind expiring ts s now at)
  pub natural_renews : NaturalRenews ts now (lane_state next at) (chosen_kind expiring ts s now at)

-- an event keeps the starvation window of a lane; an entering into the empty lane renews its deadline
abbrev pub EventKeepsWindow : Expiring → List Times → Flat → Flat → Lane → Option ℕ → WindowEvent → Type 0
EventKeepsWindow expiring ts s next at first (select_at now) = SelectKeepsWindow expiring ts s next at first now
EventKeepsWindow expiring ts s next at first (lane_fills now filled) = IsTrue (same_lane filled at) → IsRenewed ts now (lane_state next at)
EventKeepsWindow expiring ts s next at first no_event = ⊤

-- every event from a state on keeps the starvation window of a lane; first is the first Starve since the last renewal
abbrev pub WindowKept : Expiring → SetupParts → ℕ → Lane → Option ℕ → Flat → List Line → Type 0
WindowKept expiring setup c at first s [] = ⊤
WindowKept expiring setup c at first s (l ∷ ls) =
    EventKeepsWindow expiring (cluster_times setup c) s (flat_after setup c s l) at first (window_event s l)
    × WindowKept expiring setup c at (first_starve_by expiring (cluster_times setup c) s at first (window_event s l)) (flat_after setup c s l) ls

-- quanta are not 0
abbrev pub HasQuanta : List Times → Type 0
HasQuanta ts = (b : Bucket) → 0 < (times_for ts b).quantum

-- no cluster of a setup has a quantum of 0
abbrev pub SetupsHaveQuanta : Type 0
SetupsHaveQuanta = (setup : SetupParts) (c : ℕ) → IsSetup setup → c < cluster_count setup → HasQuanta (cluster_times setup c)

-- the starvation law, of a way to let windows expire: in every run of a cluster, the Starve selections of a lane with no renewal of its
-- deadline between them lie within QUANTUM of the first, a select at its end or later, with no renewal since, renews the deadline before it
-- chooses, and so do a Natural choice and an entering into the empty lane
abbrev pub StarvationLawOf : Expiring → Type 0
StarvationLawOf expiring =
    (setup : SetupParts) (c : ℕ) (at : Lane) (ls : List Line) (end : Flat)
    → IsSetup setup → c < cluster_count setup → IsTimeshare at → CRun setup c ls end
    → WindowKept expiring setup c at None (empty_flat (group_count setup)) ls

-- it holds of the policy
abbrev pub StarvationLaw : Type 0
StarvationLaw = StarvationLawOf expired
