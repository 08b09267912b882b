use Rattle.flat_policy.proofs.Runs.{reached}
use Rattle.flat_policy.proofs.laws.runs_stay_sound.Goals as goal

pub returns : goal.returns
returns c = λ setup history end run. (reached setup history end run).sound
