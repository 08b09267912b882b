-- Which lane is due first, where the lanes come in their order. No public clause cites this module.
use Rattle.std.specs.Prelude.{Bool, List, false, fold, if◌then◌else◌, nat_lt, slice_index, slice_index_or, true, ℕ}
use Rattle.bucket_tables.specs.declared.Lane.{Lane}
use Rattle.flat_policy.specs.Policy.Queue.{timeshare_lanes}
use Rattle.root_deadlines.specs.declared.lanes.Due.{Due}
use Rattle.root_deadlines.specs.Indices.{index_of_lane}

-- the index and the deadline of a lane
abbrev pub due_at : List ℕ → Lane → Due
due_at ds l = record { index = index_of_lane l; deadline = slice_index ds (index_of_lane l) }

-- the sooner of the one found so far and a later one; at one deadline the one found so far
abbrev pub sooner_of : Due → Due → Due
sooner_of x y = if nat_lt y.deadline x.deadline then y else x

-- the same, where the later one counts
abbrev pub sooner_with : Bool → Due → Due → Due
sooner_with true found y = sooner_of found y
sooner_with false found y = found

-- the soonest of the one found so far and those of the ten lanes that count
abbrev pub passed : List Bool → List ℕ → Due → Due
passed fs ds first = fold (λ (a : Due) (l : Lane). sooner_with (slice_index_or fs (index_of_lane l) false) a (due_at ds l)) first timeshare_lanes
