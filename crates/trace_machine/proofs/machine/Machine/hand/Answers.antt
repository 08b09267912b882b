use Rattle.std.proofs.Common.{ap, sym, ◌∙◌}
use Rattle.flat_policy.specs.Policy.Machine.{MachineState, hand_at}
use Rattle.trace_machine.specs.Machines.{MachineView}
use Rattle.trace_machine.specs.Parts.{hand_of}
use Rattle.trace_machine.proofs.machine.Machine.hand.Goals as goal

pub returns : goal.returns
returns g c m means =
    c.hand.ensures ∙ ap (λ (w : MachineView). (hand_of w.parts c.args.actor).thread) c.self.view_is
    ∙ ap (λ (s : MachineState). (hand_at s c.args.actor).thread) (sym means.1)
