use Rattle.std.proofs.Common.{◌≡◌, ℕ, List, get_or, is_some, replicate, ap, ◌∙◌}
use Rattle.std.proofs.lemmas.Bool.{cond_both}
use Rattle.sched_base.specs.Bucket.{index}
use Rattle.flat_policy.specs.Policy.Queue.{clutch_of}
use Rattle.plain_cluster.specs.Repricing.{cell}
use Rattle.plain_cluster.proofs.Tables.{cell_of_zeros, zeros}
use Rattle.plain_cluster.proofs.counts.Counts.none.Goals as goal

pub returns : goal.returns
returns c = λ t.
    let bound : List ℕ = replicate 6 0 in
    let none : ℕ = 0 in
    cond_both (is_some t.bound) (get_or bound (index t.bucket) 0) (cell c.filled.result (clutch_of t)) (λ n. n ≡ none)
    (λ h. zeros 6 (index t.bucket))
    (λ h. ap (λ (table : List (List ℕ)). cell table (clutch_of t)) c.filled.ensures ∙ cell_of_zeros 64 6 (clutch_of t))
