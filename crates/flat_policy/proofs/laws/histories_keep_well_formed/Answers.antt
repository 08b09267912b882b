use Rattle.flat_policy.proofs.Histories.{histories_formed}
use Rattle.flat_policy.proofs.laws.histories_keep_well_formed.Goals as goal

pub returns : goal.returns
returns c = histories_formed
