-- The windows of a run with a warp and a starvation window: which lane each select chooses, and how.
use Rattle.std.specs.Prelude.{List, Option, Some, [], false, option_map, option_to_list, ℕ, ◌++◌, ◌∷◌, ◌≡◌}
use Rattle.sched_base.specs.declared.Bucket.TheVariants.{Bg, Fg}
use Rattle.bucket_tables.specs.declared.Lane.{Lane}
use Rattle.flat_policy.specs.declared.journal.Line.{Line}
use Rattle.flat_policy.specs.declared.lanes.Kind.{Kind}
use Rattle.flat_policy.specs.declared.lanes.Kind.TheVariants.{Natural, Pass, Starve}
use Rattle.flat_policy.specs.Laws.Windows.{WindowEvent, lane_fills, no_event, select_at, window_event}
use Rattle.flat_policy.specs.Policy.Queue.{Flat, empty_flat, lane}
use Rattle.flat_policy.specs.Policy.Setup.{SetupParts, cluster_times}
use Rattle.flat_policy.specs.Policy.Windows.{Choice, chosen, expired}
use Rattle.flat_policy.specs.Runs.Histories.{flat_after}
use Rattle.worked_examples.specs.Examples.Logs.{journal_of, log_of}
use Rattle.worked_examples.specs.Examples.Powers.{no_marks}
use Rattle.worked_examples.specs.Rows.Choices.{warp_and_starvation_lines}
use Rattle.worked_examples.specs.Rows.Run.{one_cluster}

-- its lines at the cluster
abbrev pub warp_journal : List Line
warp_journal = journal_of one_cluster 0 (log_of one_cluster no_marks warp_and_starvation_lines)

-- a choice of a select: its moment, its lane, and its kind
pub record ChosenAt : Type 0 where
  pub moment : ℕ
  pub lane : Lane
  pub kind : Option Kind

-- a choice as it was made at a moment
abbrev pub chosen_at : ℕ → Choice → ChosenAt
chosen_at now k = record { moment = now; lane = k.lane; kind = k.kind }

-- the choice of a line, where it is a select of a cluster that is on and has entries
abbrev pub choice_of : SetupParts → ℕ → Flat → WindowEvent → List ChosenAt
choice_of setup c s (select_at now) = option_to_list (option_map (chosen_at now) (chosen (cluster_times setup c) (expired (cluster_times setup c) s now)))
choice_of setup c s (lane_fills now filled) = []
choice_of setup c s no_event = []

-- the choices of the lines of a cluster, from a state on
abbrev pub choices_of : SetupParts → ℕ → Flat → List Line → List ChosenAt
choices_of setup c s [] = []
choices_of setup c s (l ∷ ls) = choice_of setup c s (window_event s l) ++ choices_of setup c (flat_after setup c s l) ls

-- a choice by deadlines
abbrev pub choice_at : ℕ → Lane → Kind → ChosenAt
choice_at moment l kind = record { moment = moment; lane = l; kind = Some kind }

-- FG passes the earlier deadline of BG for 8000 microseconds, then starves for 2000 while BG is served, and then both are due in turn
abbrev pub WarpChoices : Type 0
WarpChoices =
    choices_of one_cluster 0 (empty_flat 1) warp_journal
    ≡ choice_at 260000 (lane Fg false) Pass
    ∷ choice_at 267999 (lane Fg false) Pass
    ∷ choice_at 268000 (lane Bg false) Starve
    ∷ choice_at 269999 (lane Bg false) Starve
    ∷ choice_at 270000 (lane Fg false) Natural
    ∷ choice_at 270000 (lane Bg false) Natural
    ∷ []
