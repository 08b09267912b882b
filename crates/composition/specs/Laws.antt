-- Laws of journals and logs put together.
use Rattle.std.specs.Prelude.{List, [], length, slice_index_or, sum_by, ℕ, ◌+◌, ◌<◌, ◌≡◌}
use Rattle.flat_policy.specs.declared.journal.Line.{Line}
use Rattle.flat_policy.specs.Policy.BuiltSetups.{IsSetup}
use Rattle.flat_policy.specs.Policy.Machine.{GRun}
use Rattle.flat_policy.specs.Policy.Queue.{Flat}
use Rattle.flat_policy.specs.Policy.Setup.{SetupParts, actor_count}
use Rattle.flat_policy.specs.Runs.Histories.{RunYard, entries_of}
use Rattle.flat_policy.specs.Runs.Interleaving.{EachLine, Interleaves, spot_by_journals}
use Rattle.flat_policy.specs.Runs.WholeRuns.{IsWholeRun, spot_by_setup}
use Rattle.flat_policy.specs.Runs.Worker.{IsWorked, RunParts}
use Rattle.composition.specs.Joined.{EndEmptyHanded, HaveOwnNames, NothingLeft, RunApart, hands_left, machine_of}

-- an interleaving of journals and logs that are each a history by itself is a history of the machine, which leaves what each of them leaves
abbrev pub JoinedRunsAreHistories : Type 0
JoinedRunsAreHistories =
    (setup : SetupParts) (clusters : List (List Line)) (yard : List Line) (logs : List (List Line)) (flats : List Flat) (end : RunYard) (history : List Line)
    → RunApart setup clusters yard logs flats end → Interleaves clusters yard logs history → GRun setup (entries_of history) (machine_of flats (hands_left setup logs) end)

-- each line of such an interleaving has the spot by the journals that it has by the setup
abbrev pub SpotsAreTheSetups : Type 0
SpotsAreTheSetups =
    (setup : SetupParts) (clusters : List (List Line)) (yard : List Line) (logs : List (List Line)) (flats : List Flat) (end : RunYard) (history : List Line)
    → RunApart setup clusters yard logs flats end → Interleaves clusters yard logs history → EachLine (λ (l : Line). spot_by_journals clusters l ≡ spot_by_setup setup l) history

-- where the logs end with empty hands, the threads queued, blocked and ended are together those made
abbrev pub TotalsAreThoseMade : Type 0
TotalsAreThoseMade =
    (setup : SetupParts) (clusters : List (List Line)) (yard : List Line) (logs : List (List Line)) (flats : List Flat) (end : RunYard) (history : List Line)
    → RunApart setup clusters yard logs flats end → Interleaves clusters yard logs history → EndEmptyHanded setup logs
    → sum_by (λ (s : Flat). length s.entries) flats + length end.blocked + length end.ended ≡ length end.made

-- logs by the worker rule and journals, in one order and with nothing left over, are a whole run: every program has its end line among them
abbrev pub FinishedRunsAreWhole : Type 0
FinishedRunsAreWhole =
    (run : RunParts) (clusters : List (List Line)) (yard : List Line) (logs : List (List Line)) (flats : List Flat) (end : RunYard) (history : List Line)
    → IsSetup run.setup → HaveOwnNames run.programs → RunApart run.setup clusters yard logs flats end → Interleaves clusters yard logs history
    → ((a : ℕ) → a < actor_count run.setup → IsWorked run a (slice_index_or logs a [])) → NothingLeft run.setup logs flats end
    → IsWholeRun run history (machine_of flats (hands_left run.setup logs) end) end
