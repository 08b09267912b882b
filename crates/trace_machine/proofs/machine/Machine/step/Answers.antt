use Rattle.std.proofs.Common.{◌+◌, ap, ◌∙◌}
use Rattle.flat_policy.specs.Policy.Machine.{refusal}
use Rattle.trace_machine.specs.Machines.{MachineView}
use Rattle.trace_machine.proofs.Stepped.{on_error, set_for, steps_to}
use Rattle.trace_machine.proofs.machine.Machine.step.Goals as goal

pub act-requires : goal.act-requires
act-requires g c =
    let means = c.requires.machine.1 in
    set_for c.args.self.now means.0 c.args.s.now c.moment_of-now.result means.2 (c.stays.ensures means.0 means.2) c.requires.fits c.requires.few
    (c.moment_of-now.ensures means.0 means.2)

pub returns-clause-steps : goal.returns-clause-steps
returns-clause-steps g c =
    let i = c.self.inside in
    steps_to c.args.self.now c.act.new.self (record { parts = i.parts; yard = i.yard; names = i.names; steps = i.steps + 1 }) c.args.s.now c.moment_of-now.result c.in_ok-answer.answer
    c.stays.ensures c.requires.fits c.moment_of-now.ensures c.in_ok-answer.ensures.done
    (ap (λ (w : MachineView). record w { steps = w.steps + 1 }) c.self.view_is)

pub returns-in_err-answer-clause-accepted : goal.returns-in_err-answer-clause-accepted
returns-in_err-answer-clause-accepted g c =
    on_error c.from_residual.result
    (λ s means. ap (λ h. refusal c.args.self.now.parts.setup h c.args.s.now) means.1 ∙ c.in_err-answer.ensures.accepted means.0 means.2)
