-- The one cluster and the one actor.
use Rattle.std.proofs.Common.{refl, rules, ℕ, zero, suc, ◌<◌, ◌≡◌, arith, length, get_or as slice_index_or, [], ◌∷◌}
use Rattle.worked_examples.specs.Examples.OneThread.{one_journal, one_log}
use Rattle.flat_policy.specs.Runs.Interleaving.{lines_at_cluster, lines_of_actor}
use Rattle.worked_examples.proofs.whole_runs.one_thread_is_merged.Goals as goal

at_the_cluster : (c : ℕ) → c < length (one_journal ∷ []) → lines_at_cluster (one_journal ∷ []) c one_log ≡ slice_index_or (one_journal ∷ []) c []
at_the_cluster zero h = refl
at_the_cluster (suc c) h = absurd (omega arith)

of_the_actor : (a : ℕ) → a < length (one_log ∷ []) → lines_of_actor a one_log ≡ slice_index_or (one_log ∷ []) a []
of_the_actor zero h = refl
of_the_actor (suc a) h = absurd (omega arith)

pub returns : goal.returns
returns c = record { at_clusters = at_the_cluster; in_yard = refl; of_actors = of_the_actor; given = search rules }
