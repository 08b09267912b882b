use Rattle.trace_replay.proofs.LoadSteps.{takes_step}
use Rattle.trace_replay.proofs.load.stepping.next.Goals as goal

pub returns-clause-takes : goal.returns-clause-takes
returns-clause-takes g c =
    takes_step c.args.i c.args.machine.now c.step.new.self c.args.so_far.now c.next_draw-draw.result c.drawn.result c.step_by_draw-step.result c.in_ok-reply.reply
    c.hand-held.result c.kept_after.result c.and.result
    c.requires.setup c.next_draw-draw.ensures c.drawn.ensures c.step_by_draw-step.ensures.is c.hand-held.ensures
    c.in_ok-reply.ensures.steps c.in_ok-reply.ensures.count c.kept_after.ensures c.and.ensures
