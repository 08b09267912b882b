use Rattle.flat_policy.proofs.Windows.{expires_once_is}
use Rattle.flat_policy.proofs.laws.expires_once.Goals as goal

pub returns : goal.returns
returns c = expires_once_is
