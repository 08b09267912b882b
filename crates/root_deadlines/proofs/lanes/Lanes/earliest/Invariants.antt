use Rattle.std.proofs.Common.{◌≡◌, ◌<◌, length}
use Rattle.flat_policy.specs.Policy.Queue.{timeshare_lanes}
use Rattle.root_deadlines.specs.Lanes.{filled_among}
use Rattle.root_deadlines.specs.Sooner.{passed}
use Rattle.root_deadlines.proofs.lanes.Lanes.earliest.Given as goal

-- the pass over what is left comes to what the pass over all would
abbrev pub invariant-loop-index : goal.invariant-loop-index
invariant-loop-index l = record {
  ten : length l.rest ≡ 10;
  small : l.first.index < 10;
  same : passed l.rest l.self.deadlines l.first ≡ passed l.initial.rest l.self.deadlines l.initial.first;
}

abbrev pub decreases-loop-index : goal.decreases-loop-index
decreases-loop-index l = length (filled_among l.rest timeshare_lanes)
