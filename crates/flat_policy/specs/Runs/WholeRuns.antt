-- A whole run: one history that is at once a history of the machine, of each place, and of each actor.
use Rattle.std.specs.Prelude.{Contains, List, None, Option, Some, ℕ, ◌<◌, ◌≡◌}
use Rattle.sched_base.specs.declared.Facts.{Facts}
use Rattle.sched_base.specs.declared.Spot.{Spot}
use Rattle.flat_policy.specs.declared.journal.Line.{Line}
use Rattle.flat_policy.specs.Policy.Machine.{GRun, MachineState, flat_at, spot_of}
use Rattle.flat_policy.specs.Policy.Setup.{SetupParts, actor_count, cluster_count}
use Rattle.flat_policy.specs.Runs.Histories.{CRun, RunYard, YRun, act_of, entries_of}
use Rattle.flat_policy.specs.Runs.Interleaving.{lines_at, lines_of_actor, yard_lines}
use Rattle.flat_policy.specs.Runs.Worker.{Program, RunParts, Worked, last_target, stages}
use Rattle.sched_base.specs.declared.Act.TheVariants as acts

-- the spot of a line, by the setup
abbrev pub spot_by_setup : SetupParts → Line → Option Spot
spot_by_setup setup l = spot_of setup l.entry.step

-- a thread is that of a program, with its last target as work
abbrev pub HasFinished : Program → Option Facts → Type 0
HasFinished p None = ⊥
HasFinished p (Some t) = (t.name ≡ p.name) × (t.work ≡ last_target (stages p))

-- a program has its end line among some lines
pub record EndsAmong (ls : List Line) (p : Program) : Type 0 where
  pub line : Line
  pub member : Contains ls line
  pub ends : act_of line ≡ acts.End
  pub finished : HasFinished p line.entry.thread

-- lines are a whole run: a history of the machine, of each place (which alone binds how long threads sleep) and of each actor, where every program ends
pub record IsWholeRun (run : RunParts) (history : List Line) (end : MachineState) (yard : RunYard) : Type 0 where
  pub machine : GRun run.setup (entries_of history) end
  pub clusters : (c : ℕ) → c < cluster_count run.setup → CRun run.setup c (lines_at (spot_by_setup run.setup) c history) (flat_at end c)
  pub in_yard : YRun run.setup (yard_lines (spot_by_setup run.setup) history) yard
  pub actors : (a : ℕ) → a < actor_count run.setup → Worked run a (lines_of_actor a history)
  pub programs : (p : Program) → Contains run.programs p → EndsAmong history p
