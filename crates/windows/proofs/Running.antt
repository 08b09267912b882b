-- The lanes of which nothing runs.
use Rattle.std.proofs.Common.{◌≡◌, Bool, List, ap}
use Rattle.sched_base.specs.declared.buckets.Bucket.{Bucket}
use Rattle.sched_base.specs.declared.buckets.Bucket.TheVariants.{Ui}
use Rattle.flat_policy.specs.declared.setup.Times.{Times}
use Rattle.flat_policy.specs.Policy.Queue.{LaneState, lane}
use Rattle.flat_policy.specs.Policy.Windows.{at_lane}
use Rattle.root_deadlines.specs.Lanes.{LaneTable}
use Rattle.windows.specs.declared.choice.Marks.{Marks}
use Rattle.windows.specs.Views.{TenMarked, windows_over}
use Rattle.windows.specs.WindowStates.{WindowState, state_of_lane}
use Rattle.windows.proofs.AtIndex.{stays_at}

abbrev pub means : List Times → LaneTable → List Marks → WindowState
means ts t ms = record { times = ts; lanes = windows_over t.deadlines ms; filled = t.filled }

-- a change that leaves the windows of its lane leaves all
pub stays_of : (ts : List Times) (t : LaneTable) (ms : List Marks) (rs : List Bool) → TenMarked t ms rs → (w : WindowState) → means ts t ms ≡ w
    → (b : Bucket) (bound : Bool) → (b ≡ Ui → ⊥) → (change : List Times → LaneState → LaneState) → change w.times (state_of_lane w (lane b bound)) ≡ state_of_lane w (lane b bound)
    → w ≡ record w { lanes = at_lane (lane b bound) (change w.times) w.lanes }
stays_of ts t ms rs ten w view b bound other change same =
    let f = change ts in
    let here = (rw (← view) at same) in
    rw (← view) (ap (λ (ls : List LaneState). record { times = ts; lanes = ls; filled = t.filled }) (stays_at b bound f t.deadlines ms other ten.deadlines ten.marks here))
