-- The windows of one lane.
use Rattle.std.specs.Prelude.{Bool, None, Option, Some, false, nat_le, true, ℕ, ◌||◌, ◌≡◌}
use Rattle.bucket_tables.specs.declared.Lane.{Lane}
use Rattle.flat_policy.specs.declared.lanes.Starved.{Starved}
use Rattle.flat_policy.specs.declared.lanes.Starved.TheVariants.{No, Since}
use Rattle.flat_policy.specs.declared.lanes.Warp.{Warp}
use Rattle.flat_policy.specs.declared.lanes.Warp.TheVariants.{Spent, Until, Unused}
use Rattle.flat_policy.specs.Policy.Queue.{LaneState}
use Rattle.windows.specs.declared.window.Window.{Window}

-- the windows with the lane
abbrev pub lane_window : Lane → Window → LaneState
lane_window at w = record { lane = at; deadline = w.deadline; warp = w.warp; starved = w.starved }

-- a warp runs from its beginning until it is spent
abbrev pub warp_runs : Warp → Bool
warp_runs Unused = false
warp_runs (Until end) = true
warp_runs Spent = false

-- a starvation window runs while it is there
abbrev pub starves : Starved → Bool
starves No = false
starves (Since start) = true

-- a warp or a starvation window runs
abbrev pub is_running : Warp → Starved → Bool
is_running w s = warp_runs w || starves s

-- the end of a warp has come
abbrev pub warp_ends : ℕ → Warp → Bool
warp_ends now Unused = false
warp_ends now (Until end) = nat_le end now
warp_ends now Spent = false

-- a change comes to a state: to the changed windows, or to those before where there is no change
abbrev pub IsChange : Lane → Window → Option Window → LaneState → Type 0
IsChange at w None after = after ≡ lane_window at w
IsChange at w (Some v) after = after ≡ lane_window at v
