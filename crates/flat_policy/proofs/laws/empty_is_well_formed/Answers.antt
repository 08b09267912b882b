use Rattle.flat_policy.proofs.StepsKeep.{empty_fits}
use Rattle.flat_policy.proofs.laws.empty_is_well_formed.Goals as goal

pub returns : goal.returns
returns c = empty_fits
