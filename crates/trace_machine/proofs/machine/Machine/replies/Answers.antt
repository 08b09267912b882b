use Rattle.std.proofs.Common.{drop_of_length-le, sym, subst}
use Rattle.trace_machine.proofs.Running.{RunsSoFar, runs_begin, runs_end, runs_on_at}
use Rattle.trace_machine.proofs.machine.Machine.replies.Goals as goal

pub loop-step-init : goal.loop-step-init
loop-step-init g c =
    let v = c.args.self.now in
    let all = c.args.steps.now in
    subst (λ told. RunsSoFar v v told all all) (sym c.new-told.ensures.items) (runs_begin v all c.requires.machine c.requires.few)

pub loop-step-preserved : goal.loop-step-preserved
loop-step-preserved g c =
    runs_on_at c.args.self.now c.loop-step.self c.step.new.self c.loop-step.told.items c.push.new.self.items c.args.steps.now c.loop-step.step-index _ c.in_ok-step.field-0
    c.loop-step.invariant c.loop-step-test.true c.in_ok-step.ensures.steps c.in_ok-step.ensures.count c.in_ok-push.ensures.items

pub returns-clause-replies : goal.returns-clause-replies
returns-clause-replies g c s means =
    let v = c.args.self.now in
    let all = c.args.steps.now in
    let done = subst (RunsSoFar v c.loop-step.self c.loop-step.told.items all) (drop_of_length-le all c.loop-step-test.false) c.loop-step.invariant in
    (runs_end v c.loop-step.self c.loop-step.told.items all done s means).0

pub returns-clause-leads : goal.returns-clause-leads
returns-clause-leads g c s means =
    let v = c.args.self.now in
    let all = c.args.steps.now in
    let done = subst (RunsSoFar v c.loop-step.self c.loop-step.told.items all) (drop_of_length-le all c.loop-step-test.false) c.loop-step.invariant in
    (runs_end v c.loop-step.self c.loop-step.told.items all done s means).1
