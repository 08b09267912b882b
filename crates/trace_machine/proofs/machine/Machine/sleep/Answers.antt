use Rattle.std.proofs.Common.{◌≡◌, ℕ, ap, refl, sym, subst, true, is_some, ◌<◌, ◌∙◌}
use Rattle.sched_base.specs.declared.Act.TheVariants as acts
use Rattle.sched_base.specs.declared.Answer.TheVariants as answers
use Rattle.trace_machine.specs.Acting.{ActsTo, IsSet, KeepsOn}
use Rattle.trace_machine.specs.Machines.{MachineView, MeansOver}
use Rattle.std.proofs.lemmas.Option.{same_Some}
use Rattle.sched_base.specs.declared.Facts.{Facts}
use Rattle.std.specs.Prelude.{option_map}
use Rattle.trace_machine.specs.Parts.{hand_of}
use Rattle.trace_machine.specs.Yards.{standing_of}
use Rattle.trace_machine.specs.declared.names.Standing.TheVariants as standings
use Rattle.trace_machine.proofs.SleepActs.{FallsAsleep, sleep_acts}
use Rattle.trace_machine.proofs.StandingFound.{held_is}
use Rattle.trace_machine.proofs.YardActs.{known}
use Rattle.trace_machine.proofs.YardMoves.{IsNoted}
use Rattle.trace_machine.proofs.YardRoom.{spare_to_sleep}
use Rattle.trace_machine.proofs.machine.Machine.sleep.Goals as goal

pub sleep-slot-requires : goal.sleep-slot-requires
sleep-slot-requires g c =
    let v : MachineView = c.args.self.now in
    let y = c.requires.machine.1.0 in
    let means = c.requires.machine.1.2 in
    subst (λ (w : MachineView). 0 < w.yard.sleepers.spare) (sym c.self.view_is)
    (spare_to_sleep v y c.args.actor c.release-thread.result means.yard (c.stays.ensures y means).before
    (ap (λ (w : MachineView). (hand_of w.parts c.args.actor).thread) (sym c.self.view_is) ∙ c.release-thread.ensures.thread))

pub set-requires : goal.set-requires
set-requires g c =
    let v : MachineView = c.args.self.now in
    let y = c.requires.machine.1.0 in
    let means = c.requires.machine.1.2 in
    let named : c.release-thread.result.name ≡ c.in-Some.name = same_Some c.release-thread.result.name c.in-Some.name
    (ap (option_map (λ (u : Facts). u.name)) (sym c.release-thread.ensures.thread) ∙ sym c.held_name.ensures ∙ c.in-Some.is) in
    let holding = ap (λ (w : MachineView). (hand_of w.parts c.args.actor).thread) (sym c.self.view_is) ∙ c.release-thread.ensures.thread in
    subst (λ (w : MachineView). is_some (standing_of w.names c.in-Some.name) ≡ true) (sym c.self.view_is)
    (ap (λ n. is_some (standing_of v.names n)) (sym named) ∙ ap is_some (held_is v y (known v y means (c.stays.ensures y means)) c.args.actor c.release-thread.result holding))

pub returns : goal.returns
returns g c y means =
    let i = c.self.inside in
    let a = c.args.actor in
    let t : Facts = c.release-thread.result in
    let slot : ℕ = c.sleep-slot.result in
    let old : MachineView = record { parts = i.parts; yard = i.yard; names = i.names; steps = i.steps } in
    let new : MachineView = record { parts = c.release-thread.new.self; yard = c.sleep-slot.new.self; names = c.set.new.self; steps = i.steps } in
    let named : t.name ≡ c.in-Some.name =
    same_Some t.name c.in-Some.name (ap (option_map (λ (u : Facts). u.name)) (sym c.release-thread.ensures.thread) ∙ sym c.held_name.ensures ∙ c.in-Some.is) in
    let asleep : FallsAsleep old new t slot c.args.now = record {
      inserts = c.sleep-slot.ensures.inserts;
      spare = c.sleep-slot.ensures.spare;
      count = c.sleep-slot.ensures.count;
      live = c.sleep-slot.ensures.live;
      last = c.sleep-slot.ensures.last;
    } in
    subst (λ (v : MachineView). IsSet v a c.args.now acts.Sleep → MeansOver v y → KeepsOn v y → ActsTo v new y a c.args.now acts.Sleep answers.Yes) c.self.view_is
    (λ set over keeps. sleep_acts old new y a c.args.now slot t set over keeps c.release-thread.ensures.thread c.release-thread.ensures.parts asleep
    (subst (λ n. IsNoted old new n (standings.Blocked slot)) (sym named) c.set.ensures) refl)
    c.requires means (c.stays.ensures y means)
