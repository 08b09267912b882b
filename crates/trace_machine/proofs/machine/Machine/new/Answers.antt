use Rattle.std.proofs.Common.{refl, arith}
use Rattle.trace_machine.specs.Machines.{MachineView}
use Rattle.trace_machine.proofs.Beginning.{new_means}
use Rattle.trace_machine.proofs.machine.Machine.new.Goals as goal

pub returns-in-Ok-clause-means : goal.returns-in-Ok-clause-means
returns-in-Ok-clause-means g c =
    let v : MachineView = record { parts = c.in-Ok.parts; yard = c.in_ok-yard.yard; names = c.new-in-Ok.result; steps = 0 } in
    let parts = c.in-Ok.ensures in
    let yard = c.in_ok-yard.ensures in
    new_means v c.args.setup parts.setup parts.built parts.state parts.serve (omega (arith, yard.room, c.threads.ensures.threads)) yard.none yard.count yard.live yard.last c.new-in-Ok.ensures refl
