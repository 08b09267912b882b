use Rattle.std.proofs.Common.{◌≡◌, false, Some, is_some, ap, sym, subst, ◌∙◌}
use Rattle.flat_policy.specs.Policy.Setup.{home_of}
use Rattle.sched_base.specs.declared.Act.TheVariants as acts
use Rattle.sched_base.specs.declared.Answer.TheVariants as answers
use Rattle.trace_machine.specs.declared.names.Standing.TheVariants as standings
use Rattle.trace_machine.specs.Machines.{MachineView, MeansOver}
use Rattle.trace_machine.specs.Parts.{Does, IsQueuedAs, PartsView, cluster_at, hand_of}
use Rattle.trace_machine.specs.Yards.{is_queued_at, standing_of}
use Rattle.trace_machine.proofs.ActsTo.{refused_acts}
use Rattle.trace_machine.proofs.Noting.{noted_over}
use Rattle.trace_machine.proofs.PullActs.{pull_acts, queued_at_home}
use Rattle.trace_machine.proofs.Refusals.{none_from_empty, pull_elsewhere}
use Rattle.trace_machine.proofs.YardActs.{known}
use Rattle.trace_machine.proofs.machine.Machine.pull.Goals as goal

pub pull-requires-clause-queued : goal.pull-requires-clause-queued
pull-requires-clause-queued g c =
    let v : MachineView = c.args.self.now in
    let y = c.requires.machine.1.0 in
    let means : MeansOver v y = c.requires.machine.1.2 in
    let parts = ap (λ (w : MachineView). w.parts) c.self.view_is in
    let stands : standing_of v.names c.args.name ≡ Some (standings.Queued c.in-Some.ticket) =
    subst (λ (w : MachineView). standing_of w.names c.args.name ≡ Some (standings.Queued c.in-Some.ticket)) c.self.view_is (sym c.get-standing.ensures ∙ c.in-Some.ensures.queued) in
    let here : c.in-Some.ticket.cluster ≡ home_of v.parts.setup c.args.actor =
    c.in-Some.ensures.here ∙ c.home.ensures.home ∙ ap (λ (p : PartsView). home_of p.setup c.args.actor) parts in
    subst (λ (p : PartsView). IsQueuedAs (cluster_at p (home_of p.setup c.args.actor)) c.args.name c.in-Some.ticket) (sym parts)
    (queued_at_home v y c.args.actor c.args.name c.in-Some.ticket (known v y means (c.stays.ensures y means)) stands here)

pub returns-in-None : goal.returns-in-None
returns-in-None g c y means =
    let v : MachineView = c.args.self.now in
    let st = c.get-standing.result in
    let parts = ap (λ (w : MachineView). w.parts) c.self.view_is in
    let empty : is_some (hand_of v.parts c.args.actor).thread ≡ false =
    subst (λ (p : PartsView). is_some (hand_of p c.args.actor).thread ≡ false) parts (sym c.holds.ensures ∙ c.if-holds.false) in
    let stands : standing_of v.names c.args.name ≡ st = subst (λ (w : MachineView). standing_of w.names c.args.name ≡ st) c.self.view_is (sym c.get-standing.ensures) in
    let home = c.home.ensures.home ∙ ap (λ (p : PartsView). home_of p.setup c.args.actor) parts in
    let other : is_queued_at (home_of v.parts.setup c.args.actor) st ≡ false = subst (λ h. is_queued_at h st ≡ false) home c.in-None.ensures.other in
    refused_acts v y c.args.actor c.args.now (acts.Pull c.args.name) (answers.NotQueued c.place_at.result) means
    (pull_elsewhere v y c.args.actor c.args.name st (known v y means (c.stays.ensures y means)) empty stands other
    ∙ ap (λ p. Some (answers.NotQueued p)) (sym c.place_at.ensures))

pub returns-in-Some : goal.returns-in-Some
returns-in-Some g c y means =
    let v : MachineView = c.args.self.now in
    let i = c.self.inside in
    let new : MachineView = record { parts = c.pull.new.self; yard = i.yard; names = c.set.new.self; steps = i.steps } in
    let mid : MachineView = record { parts = c.pull.new.self; yard = i.yard; names = i.names; steps = i.steps } in
    let act = acts.Pull c.args.name in
    let parts = ap (λ (w : MachineView). w.parts) c.self.view_is in
    let empty = none_from_empty (hand_of v.parts c.args.actor).thread
    (subst (λ (p : PartsView). is_some (hand_of p c.args.actor).thread ≡ false) parts (sym c.holds.ensures ∙ c.if-holds.false)) in
    let stands : standing_of v.names c.args.name ≡ Some (standings.Queued c.in-Some.ticket) =
    subst (λ (w : MachineView). standing_of w.names c.args.name ≡ Some (standings.Queued c.in-Some.ticket)) c.self.view_is (sym c.get-standing.ensures ∙ c.in-Some.ensures.queued) in
    let here : c.in-Some.ticket.cluster ≡ home_of v.parts.setup c.args.actor =
    c.in-Some.ensures.here ∙ c.home.ensures.home ∙ ap (λ (p : PartsView). home_of p.setup c.args.actor) parts in
    let does : Does v.parts new.parts c.args.actor c.args.now act answers.Yes =
    subst (λ (p : PartsView). Does p new.parts c.args.actor c.args.now act answers.Yes) parts c.pull.ensures in
    pull_acts v new y c.args.actor c.args.now c.args.name c.in-Some.ticket c.requires means (c.stays.ensures y means) empty stands here does
    (noted_over v mid new c.args.name (standings.Held c.args.actor) (ap (λ (w : MachineView). w.names) c.self.view_is) c.set.ensures)
    (ap (λ (w : MachineView). w.yard) c.self.view_is)
    (ap (λ (w : MachineView). w.steps) c.self.view_is)
