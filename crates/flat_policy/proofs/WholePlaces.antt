-- After each prefix of a whole run each name that was made stands in one place.
use Rattle.std.proofs.Common.{◌++◌, List, subst}
use Rattle.std.proofs.lemmas.List.{map-append}
use Rattle.flat_policy.specs.declared.journal.Line.{Line}
use Rattle.flat_policy.specs.Laws.Counts.{EachNameOnce}
use Rattle.flat_policy.specs.Policy.Machine.{GRun, MachineState, empty_machine}
use Rattle.flat_policy.specs.Runs.Histories.{RunYard, entries_of}
use Rattle.flat_policy.specs.Runs.WholeRuns.{IsWholeRun}
use Rattle.flat_policy.specs.Runs.Worker.{RunParts}
use Rattle.flat_policy.proofs.Prefixes.{runs_in_parts}
use Rattle.flat_policy.proofs.Runs.{reached}

pub whole_places : (run : RunParts) (front back : List Line) (end : MachineState) (yard : RunYard) → IsWholeRun run (front ++ back) end yard
    → (g : MachineState) × GRun run.setup (entries_of front) g × EachNameOnce g
whole_places run front back end yard whole =
    let parts = runs_in_parts run.setup (empty_machine run.setup) (entries_of front) (entries_of back) end
    (subst (λ es. GRun run.setup es end) (map-append (λ (l : Line). l.entry) front back) whole.machine) in
    (parts.0, parts.1, (reached run.setup (entries_of front) parts.0 parts.1).once)
