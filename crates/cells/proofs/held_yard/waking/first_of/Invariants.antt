use Rattle.std.specs.List.{IsFirstBest}
use Rattle.flat_policy.specs.Runs.Histories.{wakes_before}
use Rattle.cells.specs.Sleepers.{sleeper_of}
use Rattle.cells.specs.declared.held_yard.Resting.{Resting}
use Rattle.cells.proofs.held_yard.waking.first_of.Given as goal

abbrev pub invariant-loop-i : goal.invariant-loop-i
invariant-loop-i l = IsFirstBest (λ (x y : Resting). wakes_before (sleeper_of x) (sleeper_of y)) l.blocked l.i l.best
