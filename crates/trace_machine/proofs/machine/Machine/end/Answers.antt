use Rattle.std.proofs.Common.{◌≡◌, ◌^◌, sym, subst, length}
use Rattle.flat_policy.specs.Policy.Setup.{cluster_count}
use Rattle.trace_machine.specs.Machines.{MachineView}
use Rattle.trace_machine.specs.Parts.{AllServe}
use Rattle.trace_machine.proofs.Beginning.{ends_serving, ends_with}
use Rattle.trace_machine.proofs.machine.Machine.end.Goals as goal

pub end-requires-clause-clusters : goal.end-requires-clause-clusters
end-requires-clause-clusters g c =
    subst (λ (w : MachineView). length w.parts.clusters ≡ cluster_count w.parts.setup) (sym c.self.view_is) (ends_with c.args.self c.requires.machine c.stays.ensures)

pub end-requires-clause-serve : goal.end-requires-clause-serve
end-requires-clause-serve g c =
    subst (λ (w : MachineView). AllServe (2 ^ 50) w.parts) (sym c.self.view_is) (ends_serving c.args.self c.requires.machine c.requires.few)
