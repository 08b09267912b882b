use Rattle.std.proofs.Common.{◌<◌, ◌+◌, ◌-◌, ◌≡◌, length, arith}
use Rattle.std.specs.BTreeMap.{get}
use Rattle.std.specs.Ordering.{nat_cmp}
use Rattle.cells.proofs.Framing.{named_more}
use Rattle.cells.proofs.frame.by_name.Goals as goal

pub loop-k-preserved : goal.loop-k-preserved
loop-k-preserved c =
    let next : c.loop-k.k ≡ c.loop-k.k - 1 + 1 = omega arith in
    let within : c.loop-k.k - 1 < length c.args.programs.now = omega arith in
    named_more c.args.programs.now c.loop-k.k (c.loop-k.k - 1) _ (get nat_cmp c.loop-k.named) (get nat_cmp c.insert.new.self) next within c.loop-k.invariant
    c.in_ok-insert.ensures.updates.0
