-- A run in which BG is starved: FG uses its warp up, BG is served from 268000 on, and its window is over at 270000.
use Rattle.std.proofs.Common.{refl, rules, lit<, List, None, [], ◌∷◌, false}
use Rattle.sched_base.specs.declared.Act.TheVariants as acts
use Rattle.sched_base.specs.declared.Answer.TheVariants as answers
use Rattle.sched_base.specs.declared.Bucket.TheVariants.{Bg, Fg}
use Rattle.flat_policy.specs.declared.journal.Line.{Line}
use Rattle.flat_policy.specs.Laws.Windows.{Expiring, StarvationLawOf, WindowKept}
use Rattle.flat_policy.specs.Policy.Queue.{Flat, empty_flat, lane}
use Rattle.flat_policy.specs.Runs.Histories.{CRun}
use Rattle.worked_examples.proofs.Setups.{one_cluster_is_setup}
use Rattle.worked_examples.proofs.Told.{cluster_by_tests, flat_after_all, flat_of}
use Rattle.worked_examples.specs.Examples.Logs.{journal_of, log_of}
use Rattle.worked_examples.specs.Examples.Powers.{no_marks}
use Rattle.worked_examples.specs.Rows.Run.{Said, one_cluster, row_line}

abbrev pub starving_said : List Said
starving_said =
    row_line 0 0 (acts.Make 1 0 Bg 31 None) answers.Yes
    ∷ row_line 0 0 (acts.Enter 0 false) (answers.Pri 31)
    ∷ row_line 260000 0 (acts.Make 2 0 Fg 31 None) answers.Yes
    ∷ row_line 260000 0 (acts.Enter 0 false) (answers.Pri 31)
    ∷ row_line 260000 0 (acts.Select) (answers.Got 2)
    ∷ row_line 260000 0 (acts.Enter 0 false) (answers.Pri 31)
    ∷ row_line 268000 0 (acts.Select) (answers.Got 1)
    ∷ row_line 268000 0 (acts.End) answers.Yes
    ∷ row_line 270000 0 (acts.Select) (answers.Got 2)
    ∷ []

-- its lines at the cluster
abbrev pub starving : List Line
starving = journal_of one_cluster 0 (log_of one_cluster no_marks starving_said)

abbrev starved : Flat
starved = flat_after_all one_cluster 0 (flat_of one_cluster) starving

runs : CRun one_cluster 0 starving starved
runs = cluster_by_tests one_cluster 0 starving starved (search rules) refl

-- what the starvation law says of this run
pub law_at_run : (expiring : Expiring) → StarvationLawOf expiring → WindowKept expiring one_cluster 0 (lane Bg false) None (empty_flat 1) starving
law_at_run expiring law = law one_cluster 0 (lane Bg false) starving starved one_cluster_is_setup (lit< tt) refl runs
