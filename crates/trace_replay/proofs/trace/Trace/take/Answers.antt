use Rattle.std.proofs.Common.{◌≡◌, ◌∙◌, ◌+◌, ◌++◌, ap, arith, subst}
use Rattle.flat_policy.specs.Texts.Lines.{answered_text}
use Rattle.trace_machine.specs.Machines.{StepsTo}
use Rattle.trace_replay.proofs.Taking.{machine_goes_on, setup_stays, taken_contradicts, taken_goes, taken_step_fits}
use Rattle.trace_replay.specs.Traces.{TraceView, moved}
use Rattle.trace_replay.proofs.trace.Trace.take.Goals as goal

pub write_reply-requires-clause-step : goal.write_reply-requires-clause-step
write_reply-requires-clause-step g c =
    let s = c.args.given.now.step in
    let told = c.in_ok-reply.reply in
    let steps = subst (λ (v : TraceView). StepsTo v.machine c.step.new.self s told) c.self.view_is c.in_ok-reply.ensures.steps in
    (taken_step_fits c.args.self.now.machine c.step.new.self s told c.requires.ready.machine steps c.requires.fits c.keeps_texts.ensures).0

pub write_reply-requires-clause-answer : goal.write_reply-requires-clause-answer
write_reply-requires-clause-answer g c =
    let s = c.args.given.now.step in
    let told = c.in_ok-reply.reply in
    let steps = subst (λ (v : TraceView). StepsTo v.machine c.step.new.self s told) c.self.view_is c.in_ok-reply.ensures.steps in
    (taken_step_fits c.args.self.now.machine c.step.new.self s told c.requires.ready.machine steps c.requires.fits c.keeps_texts.ensures).1

pub returns-then-contradicts-clause-err : goal.returns-then-contradicts-clause-err
returns-then-contradicts-clause-err g c =
    let s = c.args.given.now.step in
    let told = c.in_ok-reply.reply in
    let steps = subst (λ (v : TraceView). StepsTo v.machine c.step.new.self s told) c.self.view_is c.in_ok-reply.ensures.steps in (
      (
        ap (λ (v : TraceView). v.line) c.self.view_is,
        taken_contradicts c.args.self.now c.step.new.self c.args.given.now told c.contradicts.result steps c.contradicts.ensures c.if-contradicts.true,
      ),
      record {
        page = ap (λ (v : TraceView). v.page) c.self.view_is;
        ends = record {
          machine = machine_goes_on c.args.self.now.machine c.step.new.self s told c.requires.ready.machine steps;
          steps = omega (arith, c.in_ok-reply.ensures.count, c.requires.ready.steps, ap (λ (v : TraceView). v.machine.steps) c.self.view_is);
        };
      },
    )

pub returns-clause-ok : goal.returns-clause-ok
returns-clause-ok g c =
    let s = c.args.given.now.step in
    let told = c.in_ok-reply.reply in
    let steps = subst (λ (v : TraceView). StepsTo v.machine c.step.new.self s told) c.self.view_is c.in_ok-reply.ensures.steps in
    record {
      goes =
          taken_goes c.args.self.now (record { machine = c.step.new.self; page = c.write_reply.new.page; line = c.self.inside.line + 1 }) c.args.given.now told c.contradicts.result steps c.contradicts.ensures c.if-contradicts.false
          (subst (λ (v : TraceView). c.write_reply.new.page ≡ v.page ++ answered_text (moved s told) told.answer) c.self.view_is c.write_reply.ensures);
      setup = setup_stays c.args.self.now.machine c.step.new.self s told c.requires.ready.machine steps;
      steps = c.in_ok-reply.ensures.count ∙ ap (λ (v : TraceView). v.machine.steps + 1) c.self.view_is;
      next = ap (λ (v : TraceView). v.line + 1) c.self.view_is;
    }
