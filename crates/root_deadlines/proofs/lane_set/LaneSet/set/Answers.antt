use Rattle.std.proofs.Common.{◌*◌, ◌^◌, ◌%◌, arith, refl}
use Rattle.std.proofs.lemmas.Nat.{or_lt}
use Rattle.root_deadlines.proofs.Flags.{bit_small, clear_is, set_is}
use Rattle.root_deadlines.proofs.lane_set.LaneSet.set.Goals as goal

pub invariant_of-self : goal.invariant_of-self
invariant_of-self c =
    or_lt 10 c.self.inside.bits (1 * 2 ^ c.lane_index.result % 65536) (omega (arith, c.self.invariant)) (bit_small c.lane_index.result c.lane_index.ensures.small)

pub returns-then-is_in : goal.returns-then-is_in
returns-then-is_in c =
    rw (c.lane_index.ensures.index, set_is c.self.inside.bits c.args.lane.bucket c.args.lane.bound c.requires, c.if-is_in.true, ← c.self.view_is) refl

pub returns-else-is_in : goal.returns-else-is_in
returns-else-is_in c =
    rw (c.lane_index-else-is_in.ensures.index, clear_is c.self.inside.bits c.args.lane.bucket c.args.lane.bound c.requires, c.if-is_in.false, ← c.self.view_is) refl
