use Rattle.flat_policy.proofs.Alive.{live_are_made}
use Rattle.flat_policy.proofs.laws.live_is_made_not_ended.Goals as goal

pub returns : goal.returns
returns c = live_are_made
