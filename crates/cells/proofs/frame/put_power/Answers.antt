use Rattle.std.proofs.Common.{◌<◌, length, arith}
use Rattle.cells.proofs.Framing.{power_put}
use Rattle.cells.proofs.frame.put_power.Goals as goal

pub returns-in_ok-push : goal.returns-in_ok-push
returns-in_ok-push c =
    let below : c.args.power.turn < length c.args.rows.now.items = omega (arith, c.if-at-len.true, c.len.ensures) in
    power_put c.args.rows.now.items c.args.power c.index_mut.result.now c.push.new.self below c.index_mut.ensures.value c.in_ok-push.ensures.items
