-- The one cluster and the one actor.
use Rattle.std.proofs.Common.{refl, rules, ℕ, zero, suc, ◌<◌, ◌≡◌, arith, List, get_or as slice_index_or, [], ◌∷◌}
use Rattle.flat_policy.specs.declared.journal.Line.{Line}
use Rattle.flat_policy.specs.Runs.Interleaving.{lines_at_cluster, lines_of_actor}
use Rattle.worked_examples.specs.Examples.Logs.{journal_of}
use Rattle.worked_examples.specs.Examples.Powers.{power_log}
use Rattle.worked_examples.specs.Rows.Run.{one_cluster}
use Rattle.worked_examples.proofs.whole_runs.power_is_merged.Goals as goal

abbrev journals : List (List Line)
journals = journal_of one_cluster 0 power_log ∷ []

at_the_cluster : (c : ℕ) → c < 1 → lines_at_cluster journals c power_log ≡ slice_index_or journals c []
at_the_cluster zero h = refl
at_the_cluster (suc c) h = absurd (omega (arith, h))

of_the_actor : (a : ℕ) → a < 1 → lines_of_actor a power_log ≡ slice_index_or (power_log ∷ []) a []
of_the_actor zero h = refl
of_the_actor (suc a) h = absurd (omega (arith, h))

pub returns : goal.returns
returns c = record { at_clusters = at_the_cluster; in_yard = refl; of_actors = of_the_actor; given = search rules }
