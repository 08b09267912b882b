use Rattle.std.proofs.Common.{ap, refl, sym, subst, ◌<◌, ◌^◌}
use Rattle.sched_base.specs.declared.Act.TheVariants as acts
use Rattle.sched_base.specs.declared.Answer.TheVariants as answers
use Rattle.trace_machine.specs.Acting.{ActsTo, IsSet}
use Rattle.trace_machine.specs.Machines.{MachineView, MeansOver}
use Rattle.link_arena.specs.Arena.{live_count}
use Rattle.trace_machine.specs.Yards.{YardView}
use Rattle.trace_machine.proofs.SleepActs.{blocked_acts}
use Rattle.trace_machine.proofs.YardRoom.{blocked_fits}
use Rattle.trace_machine.proofs.machine.Machine.blocked.Goals as goal

pub blocked-count-requires : goal.blocked-count-requires
blocked-count-requires g c =
    let v : MachineView = c.args.self.now in
    let y = c.requires.machine.1.0 in
    let means = c.requires.machine.1.2 in
    subst (λ (s : YardView). live_count s.sleepers < 2 ^ 32) (ap (λ (w : MachineView). w.yard) (sym c.self.view_is))
    (blocked_fits v y means.setup means.yard (c.stays.ensures y means).before)

pub returns : goal.returns
returns g c y means =
    let i = c.self.inside in
    let a = c.args.actor in
    let old : MachineView = record { parts = i.parts; yard = i.yard; names = i.names; steps = i.steps } in
    let new : MachineView = record { parts = c.keep.new.self; yard = c.touch.new.self; names = i.names; steps = i.steps } in
    subst (λ (v : MachineView). IsSet v a c.args.now acts.Blocked → MeansOver v y → ActsTo v new y a c.args.now acts.Blocked (answers.Left c.blocked-count.result)) c.self.view_is
    (λ set over. blocked_acts old new y a c.args.now c.blocked-count.result set over c.blocked-count.ensures c.keep.ensures c.touch.ensures refl refl)
    c.requires means
