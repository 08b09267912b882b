use Rattle.std.proofs.Common.{ap, refl, subst}
use Rattle.sched_base.specs.declared.Act.TheVariants as acts
use Rattle.sched_base.specs.declared.Answer.TheVariants as answers
use Rattle.flat_policy.specs.Policy.Machine.{kept_hand}
use Rattle.trace_machine.specs.Machines.{MachineView}
use Rattle.trace_machine.specs.Parts.{Does, PartsView, hand_of}
use Rattle.trace_machine.proofs.ActsTo.{quiet_acts, quiet_from}
use Rattle.trace_machine.proofs.machine.Machine.turn_on.Goals as goal

pub returns : goal.returns
returns g c y means =
    let v : MachineView = c.args.self.now in
    let i = c.self.inside in
    let new : MachineView = record { parts = c.turn.new.self; yard = i.yard; names = i.names; steps = i.steps } in
    let act = acts.On c.args.c in
    let does : Does v.parts new.parts c.args.actor c.args.now act answers.Yes =
    subst (λ (p : PartsView). Does p new.parts c.args.actor c.args.now act answers.Yes) (ap (λ (w : MachineView). w.parts) c.self.view_is) (c.turn.ensures.on refl) in
    quiet_acts v new y c.args.actor c.args.now act answers.Yes c.requires means refl does
    (quiet_from v new y c.args.actor c.args.now act answers.Yes (kept_hand (hand_of v.parts c.args.actor) c.args.now) does refl refl refl
    (ap (λ (w : MachineView). w.names) c.self.view_is))
    (ap (λ (w : MachineView). w.yard) c.self.view_is) (ap (λ (w : MachineView). w.steps) c.self.view_is)
