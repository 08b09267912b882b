use Rattle.std.proofs.Common.{◌≡◌, ◌<◌, false, IsSome, Some, is_some, length, option_map, ap, sym, subst, ◌∙◌}
use Rattle.std.proofs.lemmas.Bool.{ltb-true}
use Rattle.flat_policy.specs.Policy.Machine.{not_allowed}
use Rattle.flat_policy.specs.Policy.Setup.{cluster_count}
use Rattle.sched_base.specs.declared.Act.TheVariants as acts
use Rattle.sched_base.specs.declared.Answer.TheVariants as answers
use Rattle.sched_base.specs.declared.Facts.{Facts}
use Rattle.trace_machine.specs.declared.names.Standing.TheVariants as standings
use Rattle.trace_machine.specs.Machines.{MachineView, MeansOver}
use Rattle.trace_machine.specs.Parts.{Does, PartsView, cluster_at, hand_of}
use Rattle.trace_machine.specs.Yards.{standing_of}
use Rattle.trace_machine.proofs.MovingActs.{enter_acts}
use Rattle.trace_machine.proofs.Noting.{named_thread, noted_over}
use Rattle.trace_machine.proofs.QueueRoom.{room_to_enter}
use Rattle.trace_machine.proofs.StandingFound.{held_is}
use Rattle.trace_machine.proofs.YardActs.{known}
use Rattle.trace_machine.proofs.YardMoves.{IsNoted}
use Rattle.trace_machine.proofs.machine.Machine.enter.Goals as goal

pub enter-ticket-requires-clause-room : goal.enter-ticket-requires-clause-room
enter-ticket-requires-clause-room g c =
    let v : MachineView = c.args.self.now in
    let y = c.requires.machine.1.0 in
    let means : MeansOver v y = c.requires.machine.1.2 in
    let parts = ap (λ (w : MachineView). w.parts) c.self.view_is in
    let named = named_thread (hand_of v.parts c.args.actor).thread c.in-Some.name
    (subst (λ (p : PartsView). option_map (λ (t : Facts). t.name) (hand_of p c.args.actor).thread ≡ Some c.in-Some.name) parts (sym c.held_name.ensures ∙ c.in-Some.is)) in
    subst (λ (p : PartsView). length (cluster_at p c.args.c).flat.entries < p.setup.threads) (sym parts)
    (room_to_enter v y c.args.actor c.args.c named.0 (c.stays.ensures y means).before named.1)

pub set-requires : goal.set-requires
set-requires g c =
    let v : MachineView = c.args.self.now in
    let y = c.requires.machine.1.0 in
    let means : MeansOver v y = c.requires.machine.1.2 in
    let parts = ap (λ (w : MachineView). w.parts) c.self.view_is in
    let named = named_thread (hand_of v.parts c.args.actor).thread c.in-Some.name
    (subst (λ (p : PartsView). option_map (λ (t : Facts). t.name) (hand_of p c.args.actor).thread ≡ Some c.in-Some.name) parts (sym c.held_name.ensures ∙ c.in-Some.is)) in
    subst (λ (w : MachineView). IsSome (standing_of w.names c.in-Some.name)) (sym c.self.view_is)
    (subst (λ n. IsSome (standing_of v.names n)) named.2
    (ap is_some (held_is v y (known v y means (c.stays.ensures y means)) c.args.actor named.0 named.1)))

pub returns : goal.returns
returns g c y means =
    let v : MachineView = c.args.self.now in
    let i = c.self.inside in
    let ticket = c.enter-ticket.result in
    let new : MachineView = record { parts = c.enter-ticket.new.self; yard = i.yard; names = c.set.new.self; steps = i.steps } in
    let mid : MachineView = record { parts = c.enter-ticket.new.self; yard = i.yard; names = i.names; steps = i.steps } in
    let act = acts.Enter c.args.c c.args.head in
    let told = answers.Pri ticket.pri in
    let parts = ap (λ (w : MachineView). w.parts) c.self.view_is in
    let named = named_thread (hand_of v.parts c.args.actor).thread c.in-Some.name
    (subst (λ (p : PartsView). option_map (λ (t : Facts). t.name) (hand_of p c.args.actor).thread ≡ Some c.in-Some.name) parts (sym c.held_name.ensures ∙ c.in-Some.is)) in
    let t : Facts = named.0 in
    let allowed : (not_allowed v.parts.setup (hand_of v.parts c.args.actor).thread c.args.c).holds ≡ false =
    subst (λ (p : PartsView). (not_allowed p.setup (hand_of p c.args.actor).thread c.args.c).holds ≡ false) parts (sym c.is_kept_out.ensures ∙ c.if-is_kept_out.false) in
    let does : Does v.parts new.parts c.args.actor c.args.now act told =
    subst (λ (p : PartsView). Does p new.parts c.args.actor c.args.now act told) parts c.enter-ticket.ensures.does in
    let noted : IsNoted v new t.name (standings.Queued ticket) =
    subst (λ n. IsNoted v new n (standings.Queued ticket)) (sym named.2)
    (noted_over v mid new c.in-Some.name (standings.Queued ticket) (ap (λ (w : MachineView). w.names) c.self.view_is) c.set.ensures) in
    enter_acts v new y c.args.actor c.args.now c.args.c c.args.head t ticket c.requires means (c.stays.ensures y means) named.1
    (ltb-true c.args.c (cluster_count v.parts.setup) c.requires.act_fits)
    allowed does c.enter-ticket.ensures.cluster
    (c.enter-ticket.ensures.stands t (ap (λ (p : PartsView). (hand_of p c.args.actor).thread) parts ∙ named.1))
    noted
    (ap (λ (w : MachineView). w.yard) c.self.view_is)
    (ap (λ (w : MachineView). w.steps) c.self.view_is)
