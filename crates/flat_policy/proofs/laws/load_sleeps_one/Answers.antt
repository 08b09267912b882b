use Rattle.flat_policy.proofs.Loads.{sleeps_one}
use Rattle.flat_policy.proofs.laws.load_sleeps_one.Goals as goal

pub returns : goal.returns
returns c = sleeps_one
