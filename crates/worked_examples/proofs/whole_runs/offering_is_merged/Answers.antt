-- The two clusters and the two actors.
use Rattle.std.proofs.Common.{refl, rules, ℕ, zero, suc, ◌<◌, ◌≡◌, arith, List, get_or as slice_index_or, [], ◌∷◌}
use Rattle.flat_policy.specs.declared.journal.Line.{Line}
use Rattle.flat_policy.specs.Runs.Interleaving.{lines_at_cluster, lines_of_actor}
use Rattle.worked_examples.specs.Examples.Logs.{journal_of}
use Rattle.worked_examples.specs.Examples.Offering.{offering_actor, offering_log}
use Rattle.worked_examples.specs.Rows.Run.{two_clusters}
use Rattle.worked_examples.proofs.whole_runs.offering_is_merged.Goals as goal

abbrev journals : List (List Line)
journals = journal_of two_clusters 0 offering_log ∷ journal_of two_clusters 1 offering_log ∷ []

abbrev logs : List (List Line)
logs = offering_actor 0 ∷ offering_actor 1 ∷ []

at_clusters : (c : ℕ) → c < 2 → lines_at_cluster journals c offering_log ≡ slice_index_or journals c []
at_clusters zero h = refl
at_clusters (suc zero) h = refl
at_clusters (suc (suc c)) h = absurd (omega (arith, h))

of_actors : (a : ℕ) → a < 2 → lines_of_actor a offering_log ≡ slice_index_or logs a []
of_actors zero h = refl
of_actors (suc zero) h = refl
of_actors (suc (suc a)) h = absurd (omega (arith, h))

pub returns : goal.returns
returns c = record { at_clusters = at_clusters; in_yard = refl; of_actors = of_actors; given = search rules }
