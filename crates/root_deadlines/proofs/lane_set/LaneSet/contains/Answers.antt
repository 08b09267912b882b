use Rattle.root_deadlines.proofs.Flags.{read_is}
use Rattle.root_deadlines.proofs.lane_set.LaneSet.contains.Goals as goal

pub returns : goal.returns
returns c =
    rw (← c.self.view_is) (read_is c.self.inside.bits c.args.lane.bucket c.args.lane.bound c.lane_index.result c.lane_index.ensures.index)
