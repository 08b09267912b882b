-- Laws of where threads stand in a history of the machine.
use Rattle.std.specs.List.{list_any}
use Rattle.std.specs.Prelude.{Bool, List, Some, count_by, not, ℕ, ◌++◌, ◌==◌, ◌∷◌, ◌≡◌, ◌≤◌}
use Rattle.sched_base.specs.declared.Entry.{Entry}
use Rattle.sched_base.specs.declared.Facts.{Facts}
use Rattle.sched_base.specs.declared.Place.{Place}
use Rattle.flat_policy.specs.declared.journal.Line.{Line}
use Rattle.flat_policy.specs.Laws.Counts.{EachNameOnce}
use Rattle.flat_policy.specs.Policy.Aim.{MayEnter}
use Rattle.flat_policy.specs.Policy.Machine.{GRun, MachineState, RunsFrom, Yard, count_at, flat_at, live_count, place_count, place_of}
use Rattle.flat_policy.specs.Policy.Offer.{MayTake}
use Rattle.flat_policy.specs.Policy.Setup.{SetupParts, home_of}
use Rattle.flat_policy.specs.Runs.Histories.{RunYard, entries_of}
use Rattle.flat_policy.specs.Runs.WholeRuns.{IsWholeRun}
use Rattle.flat_policy.specs.Runs.Worker.{RunParts}
use Rattle.sched_base.specs.declared.Act.TheVariants as acts
use Rattle.sched_base.specs.declared.Answer.TheVariants as answers

-- a name that stands in at most one place stands as often at the place that is told of it as anywhere
abbrev pub PlaceIsTheOne : Type 0
PlaceIsTheOne = (g : MachineState) (name : ℕ) → place_count g name ≤ 1 → count_at g (place_of g name) name ≡ place_count g name

-- and where such a name stands is the place that is told of it
abbrev pub PlaceIsWhereItStands : Type 0
PlaceIsWhereItStands = (g : MachineState) (p : Place) (name : ℕ) → place_count g name ≤ 1 → 1 ≤ count_at g p name → place_of g name ≡ p

-- each prefix of a history of the machine is one, and the rest goes on from where it leads
abbrev pub PrefixesAreHistories : Type 0
PrefixesAreHistories =
    (setup : SetupParts) (front back : List Entry) (end : MachineState) → GRun setup (front ++ back) end
    → (g : MachineState) × GRun setup front g × RunsFrom setup g back end

-- the names made and not ended
abbrev pub names_alive : Yard → ℕ
names_alive y = count_by (λ n. not (list_any (λ m. m == n) y.ended)) y.made

-- the number of live threads in a history is that of the names made and not ended
abbrev pub LiveIsMadeNotEnded : Type 0
LiveIsMadeNotEnded = (setup : SetupParts) (history : List Entry) (g : MachineState) → GRun setup history g → live_count g.yard ≡ names_alive g.yard

-- in a history, a thread that an offer hands out may be taken along that edge, and a thread that enters may enter
pub record TakesRightly (setup : SetupParts) (g : MachineState) (e : Entry) : Type 0 where
  pub offered : (c name : ℕ) (t : Facts) → e.step.act ≡ acts.Offer c → e.answer ≡ answers.Got name → e.thread ≡ Some t
      → MayTake setup c (home_of setup e.step.actor) (flat_at g c) t
  pub entered : (c p : ℕ) (head : Bool) (t : Facts) → e.step.act ≡ acts.Enter c head → e.answer ≡ answers.Pri p → e.thread ≡ Some t → MayEnter setup t c

-- every line of a history of the machine takes and enters so
abbrev pub TakersMayTake : Type 0
TakersMayTake =
    (setup : SetupParts) (front back : List Entry) (e : Entry) (g end : MachineState)
    → GRun setup front g → RunsFrom setup g (e ∷ back) end → TakesRightly setup g e

-- after each prefix of a whole run every name that was made stands in exactly one place, and no other in any
abbrev pub WholeRunsKeepPlaces : Type 0
WholeRunsKeepPlaces =
    (run : RunParts) (front back : List Line) (end : MachineState) (yard : RunYard) → IsWholeRun run (front ++ back) end yard
    → (g : MachineState) × GRun run.setup (entries_of front) g × EachNameOnce g
