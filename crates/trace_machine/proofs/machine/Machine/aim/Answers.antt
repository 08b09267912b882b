use Rattle.std.proofs.Common.{◌≡◌, ap, sym, subst, true, is_some, ◌∙◌, Some}
use Rattle.sched_base.specs.declared.Facts.{Facts}
use Rattle.migration.specs.Looks.{IsAim}
use Rattle.flat_policy.specs.Policy.Machine.{kept_hand}
use Rattle.trace_machine.specs.Machines.{MachineView}
use Rattle.trace_machine.specs.Parts.{PartsView, hand_of}
use Rattle.trace_machine.proofs.Setting.{rehanded}
use Rattle.trace_machine.proofs.HandActs.{aim_acts, aim_lacks}
use Rattle.trace_machine.proofs.machine.Machine.aim.Goals as goal

pub returns-in-Ok : goal.returns-in-Ok
returns-in-Ok g c y means =
    let v : MachineView = c.args.self.now in
    let i = c.self.inside in
    let a = c.args.actor in
    let new : MachineView = record { parts = c.keep.new.self; yard = i.yard; names = i.names; steps = i.steps } in
    let parts = ap (λ (w : MachineView). w.parts) c.self.view_is in
    let held : is_some (hand_of i.parts a).thread ≡ true = sym c.holds.ensures ∙ c.if-not-holds.false in
    aim_acts v new y a c.args.now c.in-Ok.c c.requires means
    (subst (λ (p : PartsView). is_some (hand_of p a).thread ≡ true) parts held)
    (λ t is. subst (IsAim v.parts.setup (hand_of v.parts a).looks t) c.in-Ok.is
    (subst (λ (p : PartsView). (t : Facts) → (hand_of p a).thread ≡ Some t → IsAim p.setup (hand_of p a).looks t c.aim.result) parts c.aim.ensures t is))
    (c.keep.ensures ∙ ap (λ (p : PartsView). rehanded p a (kept_hand (hand_of p a) c.args.now)) parts)
    (ap (λ (w : MachineView). w.names) c.self.view_is) (ap (λ (w : MachineView). w.yard) c.self.view_is) (ap (λ (w : MachineView). w.steps) c.self.view_is)

pub returns-in-Err : goal.returns-in-Err
returns-in-Err g c y means =
    let v : MachineView = c.args.self.now in
    let i = c.self.inside in
    let a = c.args.actor in
    let parts = ap (λ (w : MachineView). w.parts) c.self.view_is in
    let held : is_some (hand_of i.parts a).thread ≡ true = sym c.holds.ensures ∙ c.if-not-holds.false in
    aim_lacks v y a c.args.now c.in-Err.first means
    (subst (λ (p : PartsView). is_some (hand_of p a).thread ≡ true) parts held)
    (λ t is. subst (IsAim v.parts.setup (hand_of v.parts a).looks t) c.in-Err.is
    (subst (λ (p : PartsView). (t : Facts) → (hand_of p a).thread ≡ Some t → IsAim p.setup (hand_of p a).looks t c.aim.result) parts c.aim.ensures t is))
