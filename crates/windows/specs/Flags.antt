-- Flags that follow a queue: a lane is filled where it has entries.
use Rattle.std.specs.Prelude.{Bool, List, if◌then◌else◌, map, ◌≡◌}
use Rattle.bucket_tables.specs.declared.Lane.{Lane}
use Rattle.flat_policy.specs.declared.setup.Times.{Times}
use Rattle.flat_policy.specs.Policy.Queue.{Flat, LaneState, has_entries, same_lane}
use Rattle.flat_policy.specs.Policy.Windows.{chosen_by_deadline, chosen_of}
use Rattle.windows.specs.WindowStates.{WindowState, filled_of, with_flag}

-- the windows mean those of a queue: the times of its cluster, its lanes, and as filled those with entries
pub record AreWindowsOf (ts : List Times) (s : Flat) (w : WindowState) : Type 0 where
  pub times : w.times ≡ ts
  pub lanes : w.lanes ≡ s.lanes
  pub filled : w.filled ≡ map (λ (l : LaneState). has_entries s l.lane) s.lanes

-- then the choice among the filled lanes is the queue's choice by deadlines
abbrev pub ChoicesAgree : Type 0
ChoicesAgree = (ts : List Times) (s : Flat) (w : WindowState) → AreWindowsOf ts s w → chosen_of w.times (filled_of w) ≡ chosen_by_deadline ts s

-- flags that are a test of each lane are again one after a lane is filled or emptied: that lane has the value, and the others keep theirs
abbrev pub FillingFollows : Type 0
FillingFollows =
    (test : Lane → Bool) (at : Lane) (filled : Bool) (lanes : List LaneState)
    → with_flag at filled lanes (map (λ (l : LaneState). test l.lane) lanes)
    ≡ map (λ (l : LaneState). if same_lane l.lane at then filled else test l.lane) lanes
