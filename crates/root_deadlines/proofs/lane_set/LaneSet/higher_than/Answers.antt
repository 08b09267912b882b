use Rattle.root_deadlines.proofs.Flags.{masked_is}
use Rattle.root_deadlines.proofs.lane_set.LaneSet.higher_than.Goals as goal

pub returns : goal.returns
returns c = rw (c.bits_above.ensures, ← c.self.view_is) (masked_is c.self.inside.bits c.args.bucket)
