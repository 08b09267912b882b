-- What a `Windows` means.
use Rattle.std.specs.Prelude.{Bool, List, None, Option, Some, [], false, if◌then◌else◌, map, slice_index_or, true, ℕ, ◌∷◌}
use Rattle.bucket_tables.specs.declared.Lane.{Lane}
use Rattle.flat_policy.specs.declared.lanes.Kind.{Kind}
use Rattle.flat_policy.specs.declared.setup.Times.{Times}
use Rattle.flat_policy.specs.Policy.Queue.{LaneState, new_lane, same_lane}
use Rattle.flat_policy.specs.Policy.Windows.{at_lane, expired_window, renewed_deadline, window_after}
use Rattle.root_deadlines.specs.Lanes.{filled_among}
use Rattle.root_deadlines.specs.Indices.{index_of_lane}

-- the times by bucket index, the ten lanes with their windows, and for each of them whether it is filled
pub record WindowState : Type 0 where
  pub times : List Times
  pub lanes : List LaneState
  pub filled : List Bool

-- the filled lanes
abbrev pub filled_of : WindowState → List LaneState
filled_of w = filled_among w.filled w.lanes

-- one lane's flag is set to a value, and all others stay
abbrev pub with_flag : Lane → Bool → List LaneState → List Bool → List Bool
with_flag at filled [] fs = []
with_flag at filled (l ∷ ls) [] = []
with_flag at filled (l ∷ ls) (f ∷ fs) = (if same_lane l.lane at then filled else f) ∷ with_flag at filled ls fs

-- a lane that was empty is filled at a moment
abbrev pub filled_at : ℕ → Lane → WindowState → WindowState
filled_at now at w = record w { lanes = at_lane at (renewed_deadline w.times now) w.lanes; filled = with_flag at true w.lanes w.filled }

-- a lane is empty
abbrev pub cleared : Lane → WindowState → WindowState
cleared at w = record w { filled = with_flag at false w.lanes w.filled }

-- all windows expire at a moment
abbrev pub expired_at : ℕ → WindowState → WindowState
expired_at now w = record w { lanes = map (expired_window w.times now) w.lanes }

-- the windows of a lane change by the kind of its choice; a UI lane has no kind
abbrev pub with_choice : ℕ → Lane → Option Kind → WindowState → WindowState
with_choice now at None w = w
with_choice now at (Some kind) w = record w { lanes = at_lane at (window_after w.times now kind) w.lanes }

-- the windows of a lane
abbrev pub state_of_lane : WindowState → Lane → LaneState
state_of_lane w at = slice_index_or w.lanes (index_of_lane at) (new_lane at)
