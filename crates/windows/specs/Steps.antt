-- The windows over the steps at a cluster: after the calls of a step they are those of its queue.
use Rattle.std.specs.Prelude.{Bool, Contains, List, None, Some, false, true, ℕ, ◌||◌, ◌≡◌}
use Rattle.sched_base.specs.declared.Bucket.TheVariants.{Ui}
use Rattle.sched_base.specs.declared.Facts.{Facts}
use Rattle.bucket_tables.specs.declared.Lane.{Lane}
use Rattle.flat_policy.specs.declared.setup.Times.{Times}
use Rattle.flat_policy.specs.Policy.ClusterSteps.{touched}
use Rattle.flat_policy.specs.Policy.Moves.{entered, pick, removed, selected}
use Rattle.flat_policy.specs.Policy.Queue.{Flat, Queued, has_entries, lane_of, same_lane}
use Rattle.flat_policy.specs.Policy.Refresh.{refreshed}
use Rattle.flat_policy.specs.Policy.WellFormed.{WellFormed}
use Rattle.flat_policy.specs.Policy.Windows.{Choice, chosen, expired}
use Rattle.windows.specs.Flags.{AreWindowsOf}
use Rattle.windows.specs.WindowStates.{WindowState, cleared, expired_at, filled_at, with_choice}

-- which lanes have entries after a thread enters, after an entry leaves or is selected, and after a refresh
pub record LanesWithEntries (s : Flat) : Type 0 where
  pub entering : (ts : List Times) (t : Facts) (head : Bool) (now : ℕ) (l : Lane) → has_entries (entered ts t head now s) l ≡ (has_entries s l || same_lane (lane_of t) l)
  pub leaving : (e : Queued) (now : ℕ) (l : Lane) → Contains s.entries e → same_lane (lane_of e.facts) l ≡ false → has_entries (removed e now s) l ≡ has_entries s l
  pub selecting : (ts : List Times) (now : ℕ) (e : Queued) (l : Lane) → pick ts now s ≡ Some e → same_lane (lane_of e.facts) l ≡ false → has_entries (selected ts now s) l ≡ has_entries s l
  pub refreshing : (groups now : ℕ) (l : Lane) → has_entries (refreshed groups s now) l ≡ has_entries s l

-- a thread enters: its lane is filled where it was empty; a UI lane has no windows
pub record FollowEntering (ts : List Times) (s : Flat) (w : WindowState) (t : Facts) (head : Bool) (now : ℕ) : Type 0 where
  pub empty : has_entries s (lane_of t) ≡ false → AreWindowsOf ts (entered ts t head now s) (filled_at now (lane_of t) w)
  pub filled : has_entries s (lane_of t) ≡ true → AreWindowsOf ts (entered ts t head now s) w
  pub ui : t.bucket ≡ Ui → AreWindowsOf ts (entered ts t head now s) w

-- an entry of a lane leaves, from some windows on: the lane is cleared where no entry remains; a UI lane has no windows
pub record FollowLeaving (ts : List Times) (next : Flat) (w : WindowState) (at : Lane) : Type 0 where
  pub remain : has_entries next at ≡ true → AreWindowsOf ts next w
  pub none : has_entries next at ≡ false → AreWindowsOf ts next (cleared at w)
  pub ui : at.bucket ≡ Ui → AreWindowsOf ts next w

-- a select: all windows expire, those of the chosen lane change, and its entry leaves; where nothing is chosen they expire alone
pub record FollowSelecting (ts : List Times) (s : Flat) (w : WindowState) (now : ℕ) : Type 0 where
  pub expires : AreWindowsOf ts (expired ts s now) (expired_at now w)
  pub chooses : (c : Choice) → chosen ts (expired ts s now) ≡ Some c → FollowLeaving ts (selected ts now s) (with_choice now c.lane c.kind (expired_at now w)) c.lane
  pub none : chosen ts (expired ts s now) ≡ None → AreWindowsOf ts (selected ts now s) (expired_at now w)

-- every step; an offer and a pull take an entry out, or touch the queue alone, as a look does
pub record FollowSteps (ts : List Times) (s : Flat) (w : WindowState) : Type 0 where
  pub entering : (t : Facts) (head : Bool) (now : ℕ) → FollowEntering ts s w t head now
  pub leaving : (e : Queued) (now : ℕ) → Contains s.entries e → FollowLeaving ts (removed e now s) w (lane_of e.facts)
  pub selecting : (now : ℕ) → FollowSelecting ts s w now
  pub refreshing : (groups now : ℕ) → AreWindowsOf ts (refreshed groups s now) w
  pub touching : (now : ℕ) → AreWindowsOf ts (touched now s) w
  pub powering : (on : Bool) (now : ℕ) → AreWindowsOf ts (record s { on = on; last = now }) w

-- in every well-formed queue these lanes have entries after a step
abbrev pub EntriesFollowSteps : Type 0
EntriesFollowSteps = (groups : ℕ) (s : Flat) → WellFormed groups s → LanesWithEntries s

-- and the windows of every well-formed queue follow its steps
abbrev pub WindowsFollowSteps : Type 0
WindowsFollowSteps = (groups : ℕ) (ts : List Times) (s : Flat) (w : WindowState) → WellFormed groups s → AreWindowsOf ts s w → FollowSteps ts s w
