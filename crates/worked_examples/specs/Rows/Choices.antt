-- Worked runs of choosing: windows, UI, groups, scores and times.
use Rattle.std.specs.Prelude.{List, None, Some, [], false, ◌∷◌}
use Rattle.sched_base.specs.declared.Bucket.TheVariants.{Bg, Fg, Ui, Ut}
use Rattle.worked_examples.specs.Rows.Run.{Replies, Said, one_cluster, row_line, timed_warp, two_groups, without_warp}
use Rattle.sched_base.specs.declared.Act.TheVariants as acts
use Rattle.sched_base.specs.declared.Answer.TheVariants as answers

-- a warp, a bucket that empties and fills again, and a starvation window
abbrev pub warp_and_starvation_lines : List Said
warp_and_starvation_lines =
    row_line 0 0 (acts.Make 1 0 Bg 31 None) answers.Yes
    ∷ row_line 0 0 (acts.Enter 0 false) (answers.Pri 31)
    ∷ row_line 0 0 (acts.Make 3 0 Bg 31 None) answers.Yes
    ∷ row_line 0 0 (acts.Enter 0 false) (answers.Pri 31)
    ∷ row_line 0 0 (acts.Make 4 0 Bg 31 None) answers.Yes
    ∷ row_line 0 0 (acts.Enter 0 false) (answers.Pri 31)
    ∷ row_line 260000 0 (acts.Make 2 0 Fg 31 None) answers.Yes
    ∷ row_line 260000 0 (acts.Enter 0 false) (answers.Pri 31)
    ∷ row_line 260000 0 (acts.Select) (answers.Got 2)
    ∷ row_line 260000 0 (acts.Enter 0 false) (answers.Pri 31)
    ∷ row_line 267999 0 (acts.Select) (answers.Got 2)
    ∷ row_line 267999 0 (acts.Enter 0 false) (answers.Pri 31)
    ∷ row_line 268000 0 (acts.Select) (answers.Got 1)
    ∷ row_line 268000 0 (acts.End) answers.Yes
    ∷ row_line 269999 0 (acts.Select) (answers.Got 3)
    ∷ row_line 269999 0 (acts.End) answers.Yes
    ∷ row_line 270000 0 (acts.Select) (answers.Got 2)
    ∷ row_line 270000 0 (acts.End) answers.Yes
    ∷ row_line 270000 0 (acts.Select) (answers.Got 4)
    ∷ []

-- what the machine replies to these steps
abbrev pub WarpAndStarvation : Type 0
WarpAndStarvation = Replies one_cluster warp_and_starvation_lines

-- a UI unit goes before an FG unit of equal priority
abbrev pub above_ui_equal_lines : List Said
above_ui_equal_lines =
    row_line 0 0 (acts.Make 1 0 Fg 40 None) answers.Yes
    ∷ row_line 0 0 (acts.Enter 0 false) (answers.Pri 40)
    ∷ row_line 0 0 (acts.Make 2 0 Ui 40 None) answers.Yes
    ∷ row_line 0 0 (acts.Enter 0 false) (answers.Pri 40)
    ∷ row_line 0 0 (acts.Select) (answers.Got 2)
    ∷ []

-- what the machine replies to these steps
abbrev pub AboveUiEqual : Type 0
AboveUiEqual = Replies one_cluster above_ui_equal_lines

-- an FG unit of greater priority goes before UI
abbrev pub above_ui_lower_lines : List Said
above_ui_lower_lines =
    row_line 0 0 (acts.Make 1 0 Fg 41 None) answers.Yes
    ∷ row_line 0 0 (acts.Enter 0 false) (answers.Pri 41)
    ∷ row_line 0 0 (acts.Make 2 0 Ui 40 None) answers.Yes
    ∷ row_line 0 0 (acts.Enter 0 false) (answers.Pri 40)
    ∷ row_line 0 0 (acts.Select) (answers.Got 1)
    ∷ row_line 0 0 (acts.End) answers.Yes
    ∷ row_line 0 0 (acts.Select) (answers.Got 2)
    ∷ []

-- what the machine replies to these steps
abbrev pub AboveUiLower : Type 0
AboveUiLower = Replies one_cluster above_ui_lower_lines

-- two equal groups take turns
abbrev pub groups_take_turns_lines : List Said
groups_take_turns_lines =
    row_line 0 0 (acts.Make 1 0 Fg 31 None) answers.Yes
    ∷ row_line 0 0 (acts.Enter 0 false) (answers.Pri 31)
    ∷ row_line 0 0 (acts.Make 2 0 Fg 31 None) answers.Yes
    ∷ row_line 0 0 (acts.Enter 0 false) (answers.Pri 31)
    ∷ row_line 0 0 (acts.Make 3 1 Fg 31 None) answers.Yes
    ∷ row_line 0 0 (acts.Enter 0 false) (answers.Pri 31)
    ∷ row_line 0 0 (acts.Make 4 1 Fg 31 None) answers.Yes
    ∷ row_line 0 0 (acts.Enter 0 false) (answers.Pri 31)
    ∷ row_line 0 0 (acts.Select) (answers.Got 1)
    ∷ row_line 0 0 (acts.End) answers.Yes
    ∷ row_line 0 0 (acts.Select) (answers.Got 3)
    ∷ row_line 0 0 (acts.End) answers.Yes
    ∷ row_line 0 0 (acts.Select) (answers.Got 2)
    ∷ row_line 0 0 (acts.End) answers.Yes
    ∷ row_line 0 0 (acts.Select) (answers.Got 4)
    ∷ []

-- what the machine replies to these steps
abbrev pub GroupsTakeTurns : Type 0
GroupsTakeTurns = Replies two_groups groups_take_turns_lines

-- a group that waited scores 13, and goes before UI
abbrev pub waiting_scores_lines : List Said
waiting_scores_lines =
    row_line 0 0 (acts.Make 1 0 Fg 32 None) answers.Yes
    ∷ row_line 3000 0 (acts.Ran 3000) (answers.Work 3000)
    ∷ row_line 3000 0 (acts.Sleep) answers.Yes
    ∷ row_line 13000 0 (acts.Wake 1) answers.Yes
    ∷ row_line 13000 0 (acts.Enter 0 false) (answers.Pri 32)
    ∷ row_line 13000 0 (acts.Make 2 0 Ui 28 None) answers.Yes
    ∷ row_line 13000 0 (acts.Enter 0 false) (answers.Pri 28)
    ∷ row_line 13000 0 (acts.Select) (answers.Got 1)
    ∷ []

-- what the machine replies to these steps
abbrev pub WaitingScores : Type 0
WaitingScores = Replies one_cluster waiting_scores_lines

-- the same with an equal UI unit, which goes first
abbrev pub waiting_scores_equal_lines : List Said
waiting_scores_equal_lines =
    row_line 0 0 (acts.Make 1 0 Fg 31 None) answers.Yes
    ∷ row_line 3000 0 (acts.Ran 3000) (answers.Work 3000)
    ∷ row_line 3000 0 (acts.Sleep) answers.Yes
    ∷ row_line 13000 0 (acts.Wake 1) answers.Yes
    ∷ row_line 13000 0 (acts.Enter 0 false) (answers.Pri 31)
    ∷ row_line 13000 0 (acts.Make 2 0 Ui 28 None) answers.Yes
    ∷ row_line 13000 0 (acts.Enter 0 false) (answers.Pri 28)
    ∷ row_line 13000 0 (acts.Select) (answers.Got 2)
    ∷ []

-- what the machine replies to these steps
abbrev pub WaitingScoresEqual : Type 0
WaitingScoresEqual = Replies one_cluster waiting_scores_equal_lines

-- a score is that of its own group
abbrev pub scores_by_group_lines : List Said
scores_by_group_lines =
    row_line 0 0 (acts.Make 1 0 Fg 33 None) answers.Yes
    ∷ row_line 3000 0 (acts.Ran 3000) (answers.Work 3000)
    ∷ row_line 3000 0 (acts.Sleep) answers.Yes
    ∷ row_line 13000 0 (acts.Wake 1) answers.Yes
    ∷ row_line 13000 0 (acts.Enter 0 false) (answers.Pri 33)
    ∷ row_line 13000 0 (acts.Make 2 1 Fg 31 None) answers.Yes
    ∷ row_line 13000 0 (acts.Enter 0 false) (answers.Pri 31)
    ∷ row_line 13000 0 (acts.Select) (answers.Got 2)
    ∷ []

-- what the machine replies to these steps
abbrev pub ScoresByGroup : Type 0
ScoresByGroup = Replies two_groups scores_by_group_lines

-- at one deadline the bound lane goes first
abbrev pub bound_before_unbound_lines : List Said
bound_before_unbound_lines =
    row_line 0 0 (acts.Make 1 0 Ut 31 None) answers.Yes
    ∷ row_line 0 0 (acts.Enter 0 false) (answers.Pri 31)
    ∷ row_line 0 0 (acts.Make 2 0 Ut 31 (Some 0)) answers.Yes
    ∷ row_line 0 0 (acts.Enter 0 false) (answers.Pri 31)
    ∷ row_line 0 0 (acts.Select) (answers.Got 2)
    ∷ row_line 0 0 (acts.End) answers.Yes
    ∷ row_line 0 0 (acts.Select) (answers.Got 1)
    ∷ []

-- what the machine replies to these steps
abbrev pub BoundBeforeUnbound : Type 0
BoundBeforeUnbound = Replies one_cluster bound_before_unbound_lines

-- a WARP of 0 passes no deadline
abbrev pub no_warp_lines : List Said
no_warp_lines =
    row_line 0 0 (acts.Make 1 0 Bg 31 None) answers.Yes
    ∷ row_line 0 0 (acts.Enter 0 false) (answers.Pri 31)
    ∷ row_line 260000 0 (acts.Make 2 0 Fg 31 None) answers.Yes
    ∷ row_line 260000 0 (acts.Enter 0 false) (answers.Pri 31)
    ∷ row_line 260000 0 (acts.Select) (answers.Got 1)
    ∷ []

-- what the machine replies to these steps
abbrev pub NoWarp : Type 0
NoWarp = Replies without_warp no_warp_lines

-- the same times with a WARP of 8000
abbrev pub with_warp_lines : List Said
with_warp_lines =
    row_line 0 0 (acts.Make 1 0 Bg 31 None) answers.Yes
    ∷ row_line 0 0 (acts.Enter 0 false) (answers.Pri 31)
    ∷ row_line 260000 0 (acts.Make 2 0 Fg 31 None) answers.Yes
    ∷ row_line 260000 0 (acts.Enter 0 false) (answers.Pri 31)
    ∷ row_line 260000 0 (acts.Select) (answers.Got 2)
    ∷ []

-- what the machine replies to these steps
abbrev pub WithWarp : Type 0
WithWarp = Replies timed_warp with_warp_lines
