use Rattle.std.proofs.Common.{List, ap}
use Rattle.flat_policy.specs.Policy.Queue.{LaneState}
use Rattle.windows.specs.WindowStates.{WindowState}
use Rattle.windows.proofs.AtIndex.{write_at}
use Rattle.windows.proofs.choice.Windows.put.Goals as goal

pub returns : goal.returns
returns c change same =
    let inside = c.self.inside in
    let state : List LaneState → WindowState = λ ls. record { times = inside.times; lanes = ls; filled = inside.lanes.filled } in
    let read = rw (← c.self.view_is) at same in
    rw (c.renew.ensures, c.lane_index.ensures.index, ← c.self.view_is)
    (ap state (write_at c.args.lane.bucket c.args.lane.bound change c.args.window.deadline
    (record { warp = c.args.window.warp; starved = c.args.window.starved })
    inside.lanes.deadlines inside.marks c.requires c.self.invariant.deadlines c.self.invariant.marks read))
