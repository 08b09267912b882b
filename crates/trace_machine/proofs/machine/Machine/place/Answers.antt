use Rattle.std.proofs.Common.{ap, sym, ◌∙◌}
use Rattle.flat_policy.specs.Policy.Machine.{MachineState, place_of}
use Rattle.trace_machine.specs.Machines.{MachineView}
use Rattle.trace_machine.specs.Yards.{place_in, standing_of}
use Rattle.trace_machine.proofs.Standing.{place_is}
use Rattle.trace_machine.proofs.YardActs.{known}
use Rattle.trace_machine.proofs.machine.Machine.place.Goals as goal

pub returns : goal.returns
returns g c m means =
    let v : MachineView = c.args.self.now in
    let name = c.args.name in
    c.place_at.ensures ∙ ap place_in (c.get.ensures ∙ ap (λ (w : MachineView). standing_of w.names name) c.self.view_is)
    ∙ sym (ap (λ (s : MachineState). place_of s name) means.1 ∙ place_is v means.0 (known v means.0 means.2 (c.stays.ensures means.0 means.2)) name)
