-- Parts of runs, worked: which turns are idle, and the hand after a log.
use Rattle.std.specs.Prelude.{None, [], false, slice_index_or, true, ℕ, ◌∷◌, ◌≡◌}
use Rattle.sched_base.specs.declared.Act.{Act}
use Rattle.flat_policy.specs.declared.journal.Line.{Line}
use Rattle.flat_policy.specs.Policy.Machine.{empty_hand}
use Rattle.flat_policy.specs.Runs.Hands.{hand_after_all}
use Rattle.flat_policy.specs.Runs.Worker.{is_idle}
use Rattle.worked_examples.specs.Examples.Merging.{asks_yard, select_of_0}
use Rattle.worked_examples.specs.Examples.OneThread.{one_log}
use Rattle.worked_examples.specs.Rows.Run.{one_cluster}
use Rattle.sched_base.specs.declared.Act.TheVariants as acts
use Rattle.sched_base.specs.declared.Answer.TheVariants as answers

-- a line of an act that tells how many threads are blocked
abbrev pub tells_left : Act → ℕ → Line
tells_left act count = record {
  entry = record { step = record { moment = 0; actor = 0; act = act }; answer = answers.Left count; thread = None };
  mark = None;
}

-- the first select of the run of one thread, which takes it
abbrev pub takes_thread : Line
takes_thread = slice_index_or one_log 4 asks_yard

-- a turn that finds nothing is idle; not so one that ends otherwise, with a thread blocked, with another act, or that took a thread
abbrev pub IdleTurns : Type 0
IdleTurns =
    (is_idle (asks_yard ∷ select_of_0 ∷ asks_yard ∷ []) ≡ true)
    × (is_idle [] ≡ false)
    × (is_idle (asks_yard ∷ select_of_0 ∷ []) ≡ false)
    × (is_idle (asks_yard ∷ select_of_0 ∷ tells_left acts.Blocked 1 ∷ []) ≡ false)
    × (is_idle (asks_yard ∷ select_of_0 ∷ tells_left acts.End 0 ∷ []) ≡ false)
    × (is_idle (asks_yard ∷ takes_thread ∷ asks_yard ∷ []) ≡ false)

-- the log of the run of one thread leaves the hand empty
abbrev pub LogLeavesHandEmpty : Type 0
LogLeavesHandEmpty = (hand_after_all one_cluster (empty_hand one_cluster 0) one_log).thread ≡ None
