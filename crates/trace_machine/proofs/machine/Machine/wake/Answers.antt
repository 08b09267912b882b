use Rattle.std.proofs.Common.{◌≡◌, ℕ, ap, refl, sym, subst, is_some, ◌∙◌, Some, None}
use Rattle.sched_base.specs.declared.Act.TheVariants as acts
use Rattle.sched_base.specs.declared.Answer.TheVariants as answers
use Rattle.trace_machine.specs.Acting.{ActsTo, IsSet, KeepsOn}
use Rattle.trace_machine.specs.Machines.{MachineView, MeansOver}
use Rattle.sched_base.specs.declared.Facts.{Facts}
use Rattle.link_arena.specs.Arena.{IsLive}
use Rattle.trace_machine.specs.Parts.{hand_of}
use Rattle.trace_machine.specs.Yards.{place_in, slot_in, standing_of}
use Rattle.trace_machine.specs.declared.names.Standing.TheVariants as standings
use Rattle.trace_machine.proofs.ActsTo.{refused_acts}
use Rattle.trace_machine.proofs.SleepActs.{WakesUp, wake_acts, wake_refused}
use Rattle.trace_machine.proofs.StandingFound.{sleeper_is, slot_is}
use Rattle.trace_machine.proofs.YardActs.{known}
use Rattle.trace_machine.proofs.YardMoves.{none_there}
use Rattle.trace_machine.proofs.machine.Machine.wake.Goals as goal

pub wake-thread-requires : goal.wake-thread-requires
wake-thread-requires g c =
    let v : MachineView = c.args.self.now in
    let y = c.requires.machine.1.0 in
    let means = c.requires.machine.1.2 in
    let slot : ℕ = c.in-Some.slot in
    let stands : standing_of c.self.inside.names c.args.name ≡ Some (standings.Blocked slot) =
    slot_is (standing_of c.self.inside.names c.args.name) slot (ap slot_in (sym c.get-standing.ensures) ∙ sym c.slot_at.ensures ∙ c.in-Some.is) in
    subst (λ (w : MachineView). IsLive w.yard.sleepers slot) (sym c.self.view_is)
    (ap is_some (sleeper_is v y (known v y means (c.stays.ensures y means)) c.args.name slot
    (ap (λ (w : MachineView). standing_of w.names c.args.name) (sym c.self.view_is) ∙ stands)).1)

pub returns-in-Some : goal.returns-in-Some
returns-in-Some g c y means =
    let i = c.self.inside in
    let a = c.args.actor in
    let act = acts.Wake c.args.name in
    let slot : ℕ = c.in-Some.slot in
    let t : Facts = c.wake-thread.result in
    let old : MachineView = record { parts = i.parts; yard = i.yard; names = i.names; steps = i.steps } in
    let new : MachineView = record { parts = c.fill.new.self; yard = c.wake-thread.new.self; names = c.set.new.self; steps = i.steps } in
    let stands : standing_of i.names c.args.name ≡ Some (standings.Blocked slot) =
    slot_is (standing_of i.names c.args.name) slot (ap slot_in (sym c.get-standing.ensures) ∙ sym c.slot_at.ensures ∙ c.in-Some.is) in
    let wakes : WakesUp old new slot c.args.now = record {
      removes = c.wake-thread.ensures.removes;
      spare = c.wake-thread.ensures.spare;
      count = c.wake-thread.ensures.count;
      live = c.wake-thread.ensures.live;
      last = c.wake-thread.ensures.last;
    } in
    subst (λ (v : MachineView). IsSet v a c.args.now act → MeansOver v y → KeepsOn v y → ActsTo v new y a c.args.now act answers.Yes) c.self.view_is
    (λ set over keeps. wake_acts old new y a c.args.now c.args.name slot t set over keeps
    (none_there (hand_of i.parts a).thread (sym c.holds.ensures ∙ c.if-holds.false)) stands c.wake-thread.ensures.woken c.fill.ensures wakes c.set.ensures refl)
    c.requires means (c.stays.ensures y means)

pub returns-in-None : goal.returns-in-None
returns-in-None g c y means =
    let i = c.self.inside in
    let a = c.args.actor in
    let act = acts.Wake c.args.name in
    let told = answers.NotBlocked c.place_at.result in
    let old : MachineView = record { parts = i.parts; yard = i.yard; names = i.names; steps = i.steps } in
    let elsewhere : slot_in (standing_of i.names c.args.name) ≡ None = ap slot_in (sym c.get-standing.ensures) ∙ sym c.slot_at.ensures ∙ c.in-None.is in
    subst (λ (v : MachineView). MeansOver v y → KeepsOn v y → ActsTo v v y a c.args.now act told) c.self.view_is
    (λ over keeps. refused_acts old y a c.args.now act told over
    (wake_refused old y a c.args.name (known old y over keeps) (none_there (hand_of i.parts a).thread (sym c.holds.ensures ∙ c.if-holds.false)) elsewhere
    ∙ ap (λ p. Some (answers.NotBlocked p)) (ap place_in (sym c.get-standing.ensures) ∙ sym c.place_at.ensures)))
    means (c.stays.ensures y means)
