-- A blocked thread, as the code keeps it.
use Rattle.flat_policy.specs.Runs.Histories.{DueSleeper}
use Rattle.cells.specs.declared.held_yard.Resting.{Resting}

-- what it means
abbrev pub sleeper_of : Resting → DueSleeper
sleeper_of r = record { facts = r.thread; since = r.since; due = r.due }
