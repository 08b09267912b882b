use Rattle.flat_policy.proofs.Runs.{reached, stays_within}
use Rattle.flat_policy.proofs.laws.runs_stay_within.Goals as goal

pub returns : goal.returns
returns c = λ setup history end run. stays_within setup end (reached setup history end run)
