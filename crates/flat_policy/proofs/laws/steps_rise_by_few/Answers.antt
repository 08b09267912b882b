use Rattle.flat_policy.proofs.Reaches.{step_rises}
use Rattle.flat_policy.proofs.laws.steps_rise_by_few.Goals as goal

pub returns : goal.returns
returns c = step_rises
