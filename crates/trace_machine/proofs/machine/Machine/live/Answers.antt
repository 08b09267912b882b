use Rattle.std.proofs.Common.{ap, sym, ◌∙◌}
use Rattle.flat_policy.specs.Policy.Machine.{MachineState, live_count}
use Rattle.trace_machine.specs.Machines.{MachineView}
use Rattle.trace_machine.proofs.machine.Machine.live.Goals as goal

pub returns : goal.returns
returns g c m means =
    c.live.ensures ∙ ap (λ (w : MachineView). w.yard.live) c.self.view_is
    ∙ (means.2.yard.live ∙ ap (λ (s : MachineState). live_count s.yard) (sym means.1))
