use Rattle.flat_policy.proofs.Runs.{steps_keep_counts_is}
use Rattle.flat_policy.proofs.laws.steps_keep_counts.Goals as goal

pub returns : goal.returns
returns c = steps_keep_counts_is
