use Rattle.std.proofs.Common.{◌≡◌, ap, sym, subst, true, is_some, ◌∙◌}
use Rattle.sched_base.specs.declared.Act.TheVariants as acts
use Rattle.trace_machine.specs.Machines.{MachineView}
use Rattle.trace_machine.specs.Parts.{Does, PartsView, hand_of}
use Rattle.trace_machine.proofs.HandActs.{look_acts}
use Rattle.trace_machine.proofs.machine.Machine.look.Goals as goal

pub returns : goal.returns
returns g c y means =
    let v : MachineView = c.args.self.now in
    let i = c.self.inside in
    let new : MachineView = record { parts = c.look.new.self; yard = i.yard; names = i.names; steps = i.steps } in
    let act = acts.Look c.args.c in
    let parts = ap (λ (w : MachineView). w.parts) c.self.view_is in
    let held : is_some (hand_of i.parts c.args.actor).thread ≡ true = sym c.holds.ensures ∙ c.if-not-holds.false in
    let does : Does v.parts new.parts c.args.actor c.args.now act c.look.result =
    subst (λ (p : PartsView). Does p new.parts c.args.actor c.args.now act c.look.result) parts c.look.ensures in
    look_acts v new y c.args.actor c.args.c c.args.now c.look.result c.requires means
    (subst (λ (p : PartsView). is_some (hand_of p c.args.actor).thread ≡ true) parts held) does
    (ap (λ (w : MachineView). w.names) c.self.view_is) (ap (λ (w : MachineView). w.yard) c.self.view_is) (ap (λ (w : MachineView). w.steps) c.self.view_is)
