use Rattle.std.proofs.Common.{IsSome, sym, subst}
use Rattle.trace_machine.specs.Machines.{MachineView}
use Rattle.trace_machine.specs.Yards.{standing_of}
use Rattle.trace_machine.proofs.machine.Machine.note_held.Goals as goal

pub set-requires : goal.set-requires
set-requires g c = subst (λ (v : MachineView). IsSome (standing_of v.names c.in-Got.name)) (sym c.self.view_is) (c.requires c.in-Got.name c.in-Got.is)
