use Rattle.std.proofs.Common.{arith}
use Rattle.std.proofs.lemmas.Grind.{common_steps}
use Rattle.std.proofs.lemmas.List.{take_rest}
use Rattle.ports.proofs.Lists.{handed_out}
use Rattle.ports.proofs.handing.hand_out.Goals as goal

pub returns-clause-moved : goal.returns-clause-moved
returns-clause-moved c =
    handed_out c.args.bytes.now c.copy_from_slice.new.self _ c.args.at c.min-count.result
    (rw (take_rest c.args.bytes.now c.args.at) at c.copy_from_slice.ensures.after)
    (grind (arith, common_steps))
