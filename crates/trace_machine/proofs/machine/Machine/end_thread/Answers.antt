use Rattle.std.proofs.Common.{◌≡◌, ap, refl, sym, subst, true, is_some, ◌<◌, ◌∙◌}
use Rattle.sched_base.specs.declared.Act.TheVariants as acts
use Rattle.sched_base.specs.declared.Answer.TheVariants as answers
use Rattle.trace_machine.specs.Acting.{ActsTo, IsSet, KeepsOn}
use Rattle.trace_machine.specs.Machines.{MachineView, MeansOver}
use Rattle.sched_base.specs.declared.Facts.{Facts}
use Rattle.trace_machine.specs.Parts.{hand_of}
use Rattle.trace_machine.specs.Yards.{standing_of}
use Rattle.trace_machine.specs.declared.names.Standing.TheVariants as standings
use Rattle.trace_machine.proofs.YardActs.{end_acts, known}
use Rattle.trace_machine.proofs.StandingFound.{held_is}
use Rattle.trace_machine.proofs.YardMoves.{IsNoted}
use Rattle.trace_machine.proofs.YardRoom.{live_to_end}
use Rattle.trace_machine.proofs.machine.Machine.end_thread.Goals as goal

pub end_one-requires : goal.end_one-requires
end_one-requires g c =
    let v : MachineView = c.args.self.now in
    let y = c.requires.machine.1.0 in
    let means = c.requires.machine.1.2 in
    subst (λ (w : MachineView). 0 < w.yard.live) (sym c.self.view_is)
    (live_to_end v y c.args.actor c.release.result means.yard (c.stays.ensures y means).before
    (ap (λ (w : MachineView). (hand_of w.parts c.args.actor).thread) (sym c.self.view_is) ∙ c.release.ensures.thread))

pub set-requires : goal.set-requires
set-requires g c =
    let v : MachineView = c.args.self.now in
    let y = c.requires.machine.1.0 in
    let means = c.requires.machine.1.2 in
    let named : c.release.result.name ≡ c.into_facts-ended.result.name = ap (λ (u : Facts). u.name) (sym c.into_facts-ended.ensures.facts) in
    let holding = ap (λ (w : MachineView). (hand_of w.parts c.args.actor).thread) (sym c.self.view_is) ∙ c.release.ensures.thread in
    subst (λ (w : MachineView). is_some (standing_of w.names c.into_facts-ended.result.name) ≡ true) (sym c.self.view_is)
    (ap (λ n. is_some (standing_of v.names n)) (sym named) ∙ ap is_some (held_is v y (known v y means (c.stays.ensures y means)) c.args.actor c.release.result holding))

pub returns : goal.returns
returns g c y means =
    let i = c.self.inside in
    let a = c.args.actor in
    let t : Facts = c.release.result in
    let old : MachineView = record { parts = i.parts; yard = i.yard; names = i.names; steps = i.steps } in
    let new : MachineView = record { parts = c.release.new.self; yard = c.end_one.new.self; names = c.set.new.self; steps = i.steps } in
    subst (λ (v : MachineView). IsSet v a c.args.now acts.End → MeansOver v y → KeepsOn v y → ActsTo v new y a c.args.now acts.End answers.Yes) c.self.view_is
    (λ set over keeps. end_acts old new y a c.args.now t set over keeps c.release.ensures.thread c.release.ensures.parts c.end_one.ensures
    (subst (λ (u : Facts). IsNoted old new u.name standings.Ended) c.into_facts-ended.ensures.facts c.set.ensures) refl)
    c.requires means (c.stays.ensures y means)
