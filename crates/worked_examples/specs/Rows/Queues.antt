-- Worked runs of one queue: arrival order, heads, pulls, refusals, decay and units.
use Rattle.std.specs.Prelude.{List, None, [], false, true, ◌∷◌}
use Rattle.sched_base.specs.declared.Bucket.TheVariants.{Fg}
use Rattle.worked_examples.specs.Rows.Run.{Replies, Said, one_cluster, one_thread, row_line}
use Rattle.sched_base.specs.declared.Act.TheVariants as acts
use Rattle.sched_base.specs.declared.Answer.TheVariants as answers
use Rattle.sched_base.specs.declared.Place.TheVariants as places

-- two threads in their order of arrival, and the empty queue
abbrev pub arrival_order_lines : List Said
arrival_order_lines =
    row_line 0 0 (acts.Select) answers.Empty
    ∷ row_line 0 0 (acts.Make 1 0 Fg 31 None) answers.Yes
    ∷ row_line 0 0 (acts.Select) answers.HandFull
    ∷ row_line 0 0 (acts.Enter 0 false) (answers.Pri 31)
    ∷ row_line 0 0 (acts.Make 2 0 Fg 31 None) answers.Yes
    ∷ row_line 0 0 (acts.Enter 0 false) (answers.Pri 31)
    ∷ row_line 0 0 (acts.Select) (answers.Got 1)
    ∷ row_line 0 0 (acts.End) answers.Yes
    ∷ row_line 0 0 (acts.Select) (answers.Got 2)
    ∷ []

-- what the machine replies to these steps
abbrev pub ArrivalOrder : Type 0
ArrivalOrder = Replies one_cluster arrival_order_lines

-- a thread at the head goes first, and a thread is pulled out by name
abbrev pub head_and_pull_lines : List Said
head_and_pull_lines =
    row_line 0 0 (acts.Make 1 0 Fg 31 None) answers.Yes
    ∷ row_line 0 0 (acts.Enter 0 false) (answers.Pri 31)
    ∷ row_line 0 0 (acts.Make 2 0 Fg 31 None) answers.Yes
    ∷ row_line 0 0 (acts.Enter 0 true) (answers.Pri 31)
    ∷ row_line 0 0 (acts.Select) (answers.Got 2)
    ∷ row_line 0 0 (acts.Sleep) answers.Yes
    ∷ row_line 0 0 (acts.Blocked) (answers.Left 1)
    ∷ row_line 0 0 (acts.Pull 2) (answers.NotQueued places.Blocked)
    ∷ row_line 0 0 (acts.Pull 1) answers.Yes
    ∷ row_line 0 0 (acts.Wake 2) answers.HandFull
    ∷ []

-- what the machine replies to these steps
abbrev pub HeadAndPull : Type 0
HeadAndPull = Replies one_cluster head_and_pull_lines

-- each refusal, the first condition first, in a setup with room for one thread
abbrev pub refusals_in_order_lines : List Said
refusals_in_order_lines =
    row_line 0 0 (acts.Make 1 0 Fg 31 None) answers.Yes
    ∷ row_line 0 0 (acts.Make 1 0 Fg 31 None) answers.HandFull
    ∷ row_line 0 0 (acts.Enter 0 false) (answers.Pri 31)
    ∷ row_line 0 0 (acts.Make 1 0 Fg 31 None) answers.NameUsed
    ∷ row_line 0 0 (acts.Make 2 0 Fg 31 None) answers.NoRoom
    ∷ row_line 0 0 (acts.Wake 1) (answers.NotBlocked (places.Queue 0))
    ∷ row_line 0 0 (acts.Wake 9) (answers.NotBlocked places.Nowhere)
    ∷ row_line 0 0 (acts.Select) (answers.Got 1)
    ∷ row_line 0 0 (acts.End) answers.Yes
    ∷ row_line 0 0 (acts.Pull 1) (answers.NotQueued places.Ended)
    ∷ row_line 0 0 (acts.Make 2 0 Fg 31 None) answers.Yes
    ∷ row_line 0 0 (acts.End) answers.Yes
    ∷ row_line 0 0 (acts.End) answers.HandEmpty
    ∷ []

-- what the machine replies to these steps
abbrev pub RefusalsInOrder : Type 0
RefusalsInOrder = Replies one_thread refusals_in_order_lines

-- a thread that enters again goes behind the others
abbrev pub enters_again_lines : List Said
enters_again_lines =
    row_line 0 0 (acts.Make 1 0 Fg 31 None) answers.Yes
    ∷ row_line 0 0 (acts.Enter 0 false) (answers.Pri 31)
    ∷ row_line 0 0 (acts.Make 2 0 Fg 31 None) answers.Yes
    ∷ row_line 0 0 (acts.Enter 0 false) (answers.Pri 31)
    ∷ row_line 0 0 (acts.Select) (answers.Got 1)
    ∷ row_line 0 0 (acts.Enter 0 false) (answers.Pri 31)
    ∷ row_line 0 0 (acts.Select) (answers.Got 2)
    ∷ []

-- what the machine replies to these steps
abbrev pub EntersAgain : Type 0
EntersAgain = Replies one_cluster enters_again_lines

-- usage of 32000 costs two steps of priority; after one tick it is 20000
abbrev pub decay_lowers_lines : List Said
decay_lowers_lines =
    row_line 0 0 (acts.Make 1 0 Fg 31 None) answers.Yes
    ∷ row_line 32000 0 (acts.Ran 32000) (answers.Work 32000)
    ∷ row_line 32000 0 (acts.Enter 0 false) (answers.Pri 29)
    ∷ row_line 125000 0 (acts.Refresh) (answers.New 1)
    ∷ row_line 125000 0 (acts.Select) (answers.Got 1)
    ∷ row_line 125000 0 (acts.Enter 0 false) (answers.Pri 30)
    ∷ []

-- what the machine replies to these steps
abbrev pub DecayLowers : Type 0
DecayLowers = Replies one_cluster decay_lowers_lines

-- a step of priority costs 8000 where two stand in the unit
abbrev pub two_in_one_unit_lines : List Said
two_in_one_unit_lines =
    row_line 0 0 (acts.Make 1 0 Fg 31 None) answers.Yes
    ∷ row_line 0 0 (acts.Enter 0 false) (answers.Pri 31)
    ∷ row_line 0 0 (acts.Make 2 0 Fg 31 None) answers.Yes
    ∷ row_line 16000 0 (acts.Ran 16000) (answers.Work 16000)
    ∷ row_line 16000 0 (acts.Enter 0 false) (answers.Pri 29)
    ∷ []

-- what the machine replies to these steps
abbrev pub TwoInOneUnit : Type 0
TwoInOneUnit = Replies one_cluster two_in_one_unit_lines
