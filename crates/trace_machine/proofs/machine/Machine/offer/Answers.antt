use Rattle.std.proofs.Common.{◌≡◌, ◌≢◌, false, IsSome, is_some, ap, sym, subst, ◌∙◌}
use Rattle.flat_policy.specs.Policy.Setup.{home_of}
use Rattle.sched_base.specs.declared.Act.TheVariants as acts
use Rattle.trace_machine.specs.Machines.{MachineView, MeansOver}
use Rattle.trace_machine.specs.Parts.{Does, PartsView, hand_of}
use Rattle.trace_machine.specs.Yards.{standing_of}
use Rattle.trace_machine.proofs.Noting.{notes_over}
use Rattle.trace_machine.proofs.Refusals.{none_from_empty}
use Rattle.trace_machine.proofs.TakingActs.{got_stands, offer_takes, taken_acts}
use Rattle.trace_machine.proofs.machine.Machine.offer.Goals as goal

pub note_held-requires : goal.note_held-requires
note_held-requires g c = λ name told.
    let v : MachineView = c.args.self.now in
    let act = acts.Offer c.args.from in
    let y = c.requires.machine.1.0 in
    let means : MeansOver v y = c.requires.machine.1.2 in
    let parts = ap (λ (w : MachineView). w.parts) c.self.view_is in
    let empty = none_from_empty (hand_of v.parts c.args.actor).thread
    (subst (λ (p : PartsView). is_some (hand_of p c.args.actor).thread ≡ false) parts (sym c.holds.ensures ∙ c.if-holds.false)) in
    let other : c.args.from ≢ home_of v.parts.setup c.args.actor =
    λ e. c.if-home-from.false (c.home.ensures.home ∙ ap (λ (p : PartsView). home_of p.setup c.args.actor) parts ∙ sym e) in
    let does : Does v.parts c.offer-answer.new.self c.args.actor c.args.now act c.offer-answer.result =
    subst (λ (p : PartsView). Does p c.offer-answer.new.self c.args.actor c.args.now act c.offer-answer.result) parts c.offer-answer.ensures in
    subst (λ (w : MachineView). IsSome (standing_of w.names name)) (sym c.self.view_is)
    (got_stands v c.offer-answer.new.self y c.args.actor c.args.now act c.offer-answer.result
    (offer_takes v c.offer-answer.new.self y c.args.actor c.args.now c.args.from c.offer-answer.result c.requires empty other does) means (c.stays.ensures y means) name told)

pub returns : goal.returns
returns g c y means =
    let v : MachineView = c.args.self.now in
    let new : MachineView = c.note_held.new.self in
    let act = acts.Offer c.args.from in
    let i = c.self.inside in
    let mid : MachineView = record { parts = c.offer-answer.new.self; yard = i.yard; names = i.names; steps = i.steps } in
    let parts = ap (λ (w : MachineView). w.parts) c.self.view_is in
    let empty = none_from_empty (hand_of v.parts c.args.actor).thread
    (subst (λ (p : PartsView). is_some (hand_of p c.args.actor).thread ≡ false) parts (sym c.holds.ensures ∙ c.if-holds.false)) in
    let other : c.args.from ≢ home_of v.parts.setup c.args.actor =
    λ e. c.if-home-from.false (c.home.ensures.home ∙ ap (λ (p : PartsView). home_of p.setup c.args.actor) parts ∙ sym e) in
    let did : Does v.parts mid.parts c.args.actor c.args.now act c.offer-answer.result =
    subst (λ (p : PartsView). Does p mid.parts c.args.actor c.args.now act c.offer-answer.result) parts c.offer-answer.ensures in
    let does : Does v.parts new.parts c.args.actor c.args.now act c.offer-answer.result =
    subst (λ (p : PartsView). Does v.parts p c.args.actor c.args.now act c.offer-answer.result) (sym c.note_held.ensures.parts) did in
    taken_acts v new y c.args.actor c.args.now act c.offer-answer.result
    (offer_takes v new.parts y c.args.actor c.args.now c.args.from c.offer-answer.result c.requires empty other does) means (c.stays.ensures y means)
    (notes_over v mid new c.args.actor c.offer-answer.result (ap (λ (w : MachineView). w.names) c.self.view_is)
    (record { held = c.note_held.ensures.held; rest = c.note_held.ensures.rest }))
    (c.note_held.ensures.yard ∙ ap (λ (w : MachineView). w.yard) c.self.view_is)
    (c.note_held.ensures.steps ∙ ap (λ (w : MachineView). w.steps) c.self.view_is)
