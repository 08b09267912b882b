-- Histories of the machine in two parts.
use Rattle.std.proofs.Common.{List, [], ◌∷◌, ◌++◌, refl}
use Rattle.sched_base.specs.declared.Entry.{Entry}
use Rattle.flat_policy.specs.Policy.Machine.{MachineState, RunsFrom, state_after}
use Rattle.flat_policy.specs.Policy.Setup.{SetupParts}

-- a history in two parts goes by a state between them
pub runs_in_parts : (setup : SetupParts) (g : MachineState) (front back : List Entry) (end : MachineState) → RunsFrom setup g (front ++ back) end
    → (between : MachineState) × RunsFrom setup g front between × RunsFrom setup between back end
runs_in_parts setup g [] back end run = (g, refl, run)
runs_in_parts setup g (e ∷ es) back end run =
    let rest = runs_in_parts setup (state_after setup g e.step) es back end run.2 in
    (rest.0, (run.0, run.1, rest.1), rest.2)
