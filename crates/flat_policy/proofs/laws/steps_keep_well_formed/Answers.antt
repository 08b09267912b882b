use Rattle.flat_policy.proofs.StepsKeep.{steps_keep}
use Rattle.flat_policy.proofs.laws.steps_keep_well_formed.Goals as goal

pub returns : goal.returns
returns c = steps_keep
