use Rattle.std.proofs.Common.{◌<◌, subst}
use Rattle.flat_policy.specs.Runs.Histories.{entries_of}
use Rattle.composition.proofs.Totals.{totals}
use Rattle.composition.proofs.totals_are_those_made.Goals as goal

pub returns : goal.returns
returns c = λ setup clusters yard logs flats end history apart whole empty.
    totals setup logs flats end (entries_of history) (c.joined_runs_are_histories.ensures setup clusters yard logs flats end history apart whole)
    (λ a below. empty a (subst (λ n. a < n) apart.as_many_logs below))
