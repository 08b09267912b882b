-- What is refused: each example is good but for one line, which is changed, left out or moved.
use Rattle.std.specs.Prelude.{List, None, Some, [], drop, option_map, slice_index_or, slice_set, take, ℕ, ◌++◌, ◌-◌, ◌∷◌, ◌≡◌}
use Rattle.sched_base.specs.Facts.{rested}
use Rattle.sched_base.specs.declared.Facts.{Facts}
use Rattle.flat_policy.specs.declared.journal.Line.{Line}
use Rattle.flat_policy.specs.Runs.Hands.{Own}
use Rattle.flat_policy.specs.Runs.Histories.{RunYard, YRun}
use Rattle.flat_policy.specs.Runs.Interleaving.{Interleaves}
use Rattle.flat_policy.specs.Runs.Worker.{Turn, Worked}
use Rattle.worked_examples.specs.Examples.Merging.{asks_yard, crossed_journals, offer_to_0, offer_to_1, select_of_0, select_of_1, two_logs}
use Rattle.worked_examples.specs.Examples.Offering.{offering_run}
use Rattle.worked_examples.specs.Examples.OneThread.{one_log, one_run, one_yard_journal}
use Rattle.worked_examples.specs.Examples.Powers.{power_log, power_run}
use Rattle.worked_examples.specs.Rows.Run.{one_cluster}
use Rattle.sched_base.specs.declared.Act.TheVariants as acts
use Rattle.sched_base.specs.declared.Answer.TheVariants as answers

-- a turn that finds nothing asks its neighbour for an offer; without that it is no turn
abbrev pub IdleNeedsOffers : Type 0
IdleNeedsOffers =
    Turn offering_run 0 0 (asks_yard ∷ select_of_0 ∷ offer_to_0 ∷ asks_yard ∷ [])
    × (Turn offering_run 0 0 (asks_yard ∷ select_of_0 ∷ asks_yard ∷ []) → ⊥)

-- a line of the run of one thread
abbrev pub one_line : ℕ → Line
one_line k = slice_index_or one_log k asks_yard

-- its log, with a span as the mark of its sleep
abbrev pub log_sleeping : ℕ → List Line
log_sleeping span = slice_set one_log 6 (record (one_line 6) { mark = Some span })

-- the sleep of the program is 2000: with the mark 1999 the log does not follow the worker rule
abbrev pub MarkIsSpan : Type 0
MarkIsSpan = (log_sleeping 2000 ≡ one_log) × (Worked one_run 0 (log_sleeping 1999) → ⊥)

-- the turn in which it is woken, and placed again
abbrev pub waking_turn : List Line
waking_turn = take 5 (drop 7 one_log)

-- where the woken thread is never placed it is no turn
abbrev pub TakenIsPlaced : Type 0
TakenIsPlaced = Turn one_run 0 1 waking_turn × (Turn one_run 0 1 (take 3 waking_turn) → ⊥)

-- its wake, at another moment
abbrev pub waking_line : ℕ → Line
waking_line moment = record {
  entry = record {
    step = record { moment = moment; actor = 0; act = acts.Wake 1 };
    answer = answers.Yes;
    thread = option_map (rested (moment - 5000)) (one_line 6).entry.thread;
  };
  mark = None;
}

-- its lines in the yard, with that wake
abbrev pub yard_waking_at : ℕ → List Line
yard_waking_at moment = slice_set one_yard_journal 4 (waking_line moment)

-- the thread is due at 7000: with the wake at 6999 it is no history of the yard, whatever the yard at its end
abbrev pub WakeIsDue : Type 0
WakeIsDue = (yard_waking_at 7000 ≡ one_yard_journal) × ((end : RunYard) → YRun one_cluster (yard_waking_at 6999) end → ⊥)

-- a thread with another name
abbrev pub named : ℕ → Facts → Facts
named name t = record t { name = name }

-- its first enter, with that thread
abbrev pub entering_line : ℕ → Line
entering_line name = record (one_line 2) { entry = record (one_line 2).entry { thread = option_map (named name) (one_line 2).entry.thread } }

-- its log, with that enter
abbrev pub log_entering : ℕ → List Line
log_entering name = slice_set one_log 2 (entering_line name)

-- the hand holds thread 1: a log that enters thread 2 is not what it allows
abbrev pub EntersWhatItHolds : Type 0
EntersWhatItHolds = (log_entering 1 ≡ one_log) × (Own one_cluster 0 (log_entering 2) → ⊥)

-- the log of the run with a power, without its off line, does not follow the worker rule
abbrev pub OffIsNeeded : Type 0
OffIsNeeded = Worked power_run 0 (take 3 power_log ++ drop 4 power_log) → ⊥

-- journals that fit two logs: actor 1 goes first at both clusters
abbrev pub journals_by_1 : List (List Line)
journals_by_1 = (offer_to_1 ∷ select_of_0 ∷ []) ∷ (select_of_1 ∷ offer_to_0 ∷ []) ∷ []

-- with one line of the second journal moved behind the other, no history is an interleaving
abbrev pub MovedLineFitsNowhere : Type 0
MovedLineFitsNowhere =
    Interleaves journals_by_1 [] two_logs (select_of_1 ∷ offer_to_1 ∷ select_of_0 ∷ offer_to_0 ∷ [])
    × ((history : List Line) → Interleaves crossed_journals [] two_logs history → ⊥)
