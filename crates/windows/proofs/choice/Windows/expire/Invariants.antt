use Rattle.std.proofs.Common.{◌≡◌, length}
use Rattle.flat_policy.specs.Policy.Queue.{timeshare_lanes}
use Rattle.flat_policy.specs.Policy.Windows.{expired_window}
use Rattle.root_deadlines.specs.Lanes.{filled_among}
use Rattle.windows.specs.WindowStates.{expired_at}
use Rattle.windows.proofs.EachLane.{changed_where}
use Rattle.windows.proofs.Ordered.{lanes_of}
use Rattle.windows.proofs.choice.Windows.expire.Given as goal

-- once the windows of what is left expire, all have expired
abbrev pub invariant-loop-index : goal.invariant-loop-index
invariant-loop-index l = record {
  lanes : lanes_of l.self.lanes ≡ timeshare_lanes;
  same : record l.self { lanes = changed_where l.rest (expired_window l.self.times l.now) l.self.lanes } ≡ expired_at l.now l.initial.self;
}

abbrev pub decreases-loop-index : goal.decreases-loop-index
decreases-loop-index l = length (filled_among l.rest timeshare_lanes)
