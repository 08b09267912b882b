use Rattle.std.proofs.Common.{◌-◌, arith}
use Rattle.ports.proofs.Buffers.{Keeps-read_into}
use Rattle.ports.proofs.buffer.move_and_take.Goals as goal

pub returns-clause-bytes : goal.returns-clause-bytes
returns-clause-bytes g c =
    Keeps-read_into c.take.result (c.args.end - c.args.start) _ c.move_to_front.new.bytes c.take.new.into _ _ _ c.move_to_front.ensures (omega (arith, c.move_to_front.auto.bytes)) c.take.ensures.bound c.take.ensures.bytes
