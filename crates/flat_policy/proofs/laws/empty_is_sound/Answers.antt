use Rattle.flat_policy.proofs.Runs.{empty_sound}
use Rattle.flat_policy.proofs.laws.empty_is_sound.Goals as goal

pub returns : goal.returns
returns c = empty_sound
