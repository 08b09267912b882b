use Rattle.flat_policy.proofs.KeyedFirst.{keys_find_first}
use Rattle.flat_policy.proofs.laws.first_goes_by_keys.Goals as goal

pub returns : goal.returns
returns c = keys_find_first
