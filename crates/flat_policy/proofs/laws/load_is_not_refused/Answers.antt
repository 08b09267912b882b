use Rattle.flat_policy.proofs.Loads.{load_goes}
use Rattle.flat_policy.proofs.laws.load_is_not_refused.Goals as goal

pub returns : goal.returns
returns c = λ seed n. (load_goes seed n).accepted
