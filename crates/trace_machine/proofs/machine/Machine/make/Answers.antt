use Rattle.std.proofs.Common.{◌≡◌, ap, refl, sym, subst, is_some, None, OnErr, Result, Ok, Err, ◌<◌, ◌≤◌, ◌∙◌, None, arith}
use Rattle.sched_base.specs.Facts.{fresh}
use Rattle.sched_base.specs.declared.Act.TheVariants as acts
use Rattle.sched_base.specs.declared.Answer.TheVariants as answers
use Rattle.sched_base.specs.declared.Facts.{Facts}
use Rattle.flat_policy.specs.Policy.Machine.{Yard, filled_hand}
use Rattle.flat_policy.specs.Policy.Setup.{SetupParts}
use Rattle.flat_policy.specs.Policy.Threads.{made_thread, preference}
use Rattle.trace_machine.specs.Acting.{ActsTo, IsSet, KeepsOn}
use Rattle.trace_machine.specs.Machines.{MachineView, MeansOver}
use Rattle.trace_machine.specs.Parts.{hand_of}
use Rattle.trace_machine.specs.Yards.{standing_of}
use Rattle.trace_machine.proofs.ActsTo.{refused_acts, refused_by}
use Rattle.trace_machine.proofs.Setting.{rehanded}
use Rattle.trace_machine.proofs.YardActs.{known, make_accepted, make_acts, make_crowded, make_used}
use Rattle.trace_machine.proofs.YardMoves.{none_there}
use Rattle.trace_machine.proofs.machine.Machine.make.Goals as goal

pub returns-then-is_some-clause-done : goal.returns-then-is_some-clause-done
returns-then-is_some-clause-done g c y means =
    let i = c.self.inside in
    let d = c.args in
    let act = acts.Make d.name d.group d.bucket d.base d.bound in
    let old : MachineView = record { parts = i.parts; yard = i.yard; names = i.names; steps = i.steps } in
    let empty = none_there (hand_of i.parts d.actor).thread (sym c.holds.ensures ∙ c.if-holds.false) in
    let named = ap is_some (sym c.get.ensures) ∙ sym c.is_some.ensures ∙ c.if-is_some.true in
    subst (λ (v : MachineView). MeansOver v y → KeepsOn v y → ActsTo v v y d.actor d.now act answers.NameUsed) c.self.view_is
    (λ over keeps. refused_acts old y d.actor d.now act answers.NameUsed over
    (make_used old y d.actor d.name d.group d.base d.bucket d.bound (known old y over keeps) empty named))
    means (c.stays.ensures y means)

pub returns-then-live-threads-clause-done : goal.returns-then-live-threads-clause-done
returns-then-live-threads-clause-done g c y means =
    let i = c.self.inside in
    let d = c.args in
    let act = acts.Make d.name d.group d.bucket d.base d.bound in
    let old : MachineView = record { parts = i.parts; yard = i.yard; names = i.names; steps = i.steps } in
    let empty = none_there (hand_of i.parts d.actor).thread (sym c.holds.ensures ∙ c.if-holds.false) in
    let unnamed = none_there (standing_of i.names d.name) (ap is_some (sym c.get.ensures) ∙ sym c.is_some.ensures ∙ c.if-is_some.false) in
    let full : i.parts.setup.threads ≤ i.yard.live =
    omega (arith, c.if-live-threads.true, c.live.ensures, c.threads.ensures.threads, ap (λ (s : SetupParts). s.threads) c.setup.ensures) in
    subst (λ (v : MachineView). MeansOver v y → KeepsOn v y → ActsTo v v y d.actor d.now act answers.NoRoom) c.self.view_is
    (λ over keeps. refused_acts old y d.actor d.now act answers.NoRoom over
    (make_crowded old y d.actor d.name d.group d.base d.bucket d.bound (known old y over keeps) empty unnamed full))
    means (c.stays.ensures y means)

pub returns-clause-done : goal.returns-clause-done
returns-clause-done g c y means =
    let i = c.self.inside in
    let d = c.args in
    let act = acts.Make d.name d.group d.bucket d.base d.bound in
    let setup : SetupParts = i.parts.setup in
    let old : MachineView = record { parts = i.parts; yard = i.yard; names = i.names; steps = i.steps } in
    let new : MachineView = record { parts = c.fill.new.self; yard = c.make.new.self; names = c.add.new.self; steps = i.steps } in
    let empty = none_there (hand_of i.parts d.actor).thread (sym c.holds.ensures ∙ c.if-holds.false) in
    let unnamed = none_there (standing_of i.names d.name) (ap is_some (sym c.get.ensures) ∙ sym c.is_some.ensures ∙ c.if-is_some.false) in
    let room : i.yard.live < setup.threads =
    omega (arith, c.if-live-threads.false, c.live.ensures, c.threads.ensures.threads, ap (λ (s : SetupParts). s.threads) c.setup.ensures) in
    let made : c.new-thread.result ≡ made_thread setup d.name d.group d.bucket d.base d.bound d.now =
    c.new-thread.ensures
    ∙ ap (λ p. fresh d.name d.group d.bucket d.base d.bound p d.now)
    (c.preference-prefer.ensures ∙ ap (λ s. preference s d.group d.bucket d.bound) c.setup-2.ensures) in
    subst (λ (v : MachineView). IsSet v d.actor d.now act → MeansOver v y → KeepsOn v y → ActsTo v new y d.actor d.now act answers.Yes) c.self.view_is
    (λ set over keeps. make_acts old new y d.actor d.now d.name d.group d.base d.bucket d.bound set over keeps empty unnamed room
    (c.fill.ensures ∙ ap (λ (t : Facts). rehanded i.parts d.actor (filled_hand setup t d.now)) made) c.make.ensures c.in_ok-add.ensures.added refl)
    c.requires means (c.stays.ensures y means)

on_err : {T E P : Type 0} (r : Result T E) → P → OnErr r P
on_err (Ok x) p = tt
on_err (Err e) p = p

pub returns-in_err-add-clause-accepted : goal.returns-in_err-add-clause-accepted
returns-in_err-add-clause-accepted g c =
    let i = c.self.inside in
    let d = c.args in
    let act = acts.Make d.name d.group d.bucket d.base d.bound in
    let old : MachineView = record { parts = i.parts; yard = i.yard; names = i.names; steps = i.steps } in
    let empty = none_there (hand_of i.parts d.actor).thread (sym c.holds.ensures ∙ c.if-holds.false) in
    let unnamed = none_there (standing_of i.names d.name) (ap is_some (sym c.get.ensures) ∙ sym c.is_some.ensures ∙ c.if-is_some.false) in
    let room : i.yard.live < i.parts.setup.threads =
    omega (arith, c.if-live-threads.false, c.live.ensures, c.threads.ensures.threads, ap (λ (s : SetupParts). s.threads) c.setup.ensures) in
    let accepted : (y : Yard) → MeansOver d.self.now y → refused_by d.self.now.parts y d.actor act ≡ None = λ y means.
    subst (λ (v : MachineView). MeansOver v y → KeepsOn v y → refused_by v.parts y d.actor act ≡ None) c.self.view_is
    (λ over keeps. make_accepted old y d.actor d.name d.group d.base d.bucket d.bound (known old y over keeps) empty unnamed room)
    means (c.stays.ensures y means) in
    on_err c.from_residual.result accepted
