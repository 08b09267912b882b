-- How the fields of a `Windows` mean its lanes.
use Rattle.std.specs.Prelude.{Bool, List, [], length, map, ℕ, ◌≡◌, ◌∷◌}
use Rattle.bucket_tables.specs.declared.Lane.{Lane}
use Rattle.flat_policy.specs.Policy.Queue.{LaneState, timeshare_lanes}
use Rattle.root_deadlines.specs.Lanes.{LaneTable}
use Rattle.windows.specs.declared.choice.Marks.{Marks}
use Rattle.windows.specs.OneLane.{is_running}

-- lanes, deadlines and marks, beside each other
abbrev pub beside : List Lane → List ℕ → List Marks → List LaneState
beside [] ds ms = []
beside (l ∷ ls) [] ms = []
beside (l ∷ ls) (d ∷ ds) [] = []
beside (l ∷ ls) (d ∷ ds) (m ∷ ms) = record { lane = l; deadline = d; warp = m.warp; starved = m.starved } ∷ beside ls ds ms

-- the ten lanes with these deadlines and marks
abbrev pub windows_over : List ℕ → List Marks → List LaneState
windows_over ds ms = beside timeshare_lanes ds ms

-- whether a warp or a starvation window of a lane runs
abbrev pub runs : Marks → Bool
runs m = is_running m.warp m.starved

-- flags, deadlines and marks speak of ten lanes, and those are running of which a warp or a starvation window runs
pub record TenMarked (t : LaneTable) (ms : List Marks) (rs : List Bool) : Type 0 where
  pub filled : length t.filled ≡ 10
  pub deadlines : length t.deadlines ≡ 10
  pub marks : length ms ≡ 10
  pub running : rs ≡ map runs ms
