use Rattle.std.proofs.Common.{◌-◌, ap, take, ◌∙◌}
use Rattle.ports.proofs.Buffers.{part-front}
use Rattle.ports.proofs.buffer.move_to_front.Goals as goal

pub returns-then-start-gt0 : goal.returns-then-start-gt0
returns-then-start-gt0 c =
    ap (take (c.args.end - c.args.start)) c.copy_within.ensures.after
    ∙ part-front c.args.bytes.now c.args.start c.args.end c.requires.order c.requires.within
