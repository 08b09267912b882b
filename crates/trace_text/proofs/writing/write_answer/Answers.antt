use Rattle.std.proofs.Common.{arith, length, ◌≤◌}
use Rattle.trace_text.proofs.Texts.{filled_short}
use Rattle.trace_text.proofs.writing.write_answer.Goals as goal

pub put_answer_part-out-inside-requires : goal.put_answer_part-out-inside-requires
put_answer_part-out-inside-requires c =
    let o = c.out.inside in
    let within : o.len ≤ length o.buffer = omega (arith, c.out.invariant, c.out.told) in
    omega (arith, c.out.told, filled_short c.args.out.now o.buffer o.len c.requires.step c.out.view_is within)

pub invariant_of-out : goal.invariant_of-out
invariant_of-out c =
    let o = c.out.inside in
    let within : o.len ≤ length o.buffer = omega (arith, c.out.invariant, c.out.told) in
    let short = filled_short c.args.out.now o.buffer o.len c.requires.step c.out.view_is within in
    omega (arith, short, c.put_answer_part-out-inside.ensures.most)
