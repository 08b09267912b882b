use Rattle.std.proofs.Common.{ap, length, sym, ◌∙◌, ◌≤◌, subst}
use Rattle.flat_policy.specs.Runs.LoadTrace.{queued_count}
use Rattle.trace_machine.specs.Machines.{MachineView}
use Rattle.trace_machine.specs.Parts.{queued_in}
use Rattle.trace_machine.proofs.Queued.{clusters_few, queued_is}
use Rattle.trace_machine.proofs.machine.Machine.queued.Goals as goal

pub queued-requires : goal.queued-requires
queued-requires g c = subst (λ (w : MachineView). length w.parts.clusters ≤ 8) (sym c.self.view_is) (clusters_few c.args.self.now c.requires c.stays.ensures)

pub returns : goal.returns
returns g c m means =
    c.queued.ensures ∙ ap (λ (w : MachineView). queued_in w.parts.clusters) c.self.view_is
    ∙ queued_is c.args.self.now means.0 ∙ ap queued_count (sym means.1)
