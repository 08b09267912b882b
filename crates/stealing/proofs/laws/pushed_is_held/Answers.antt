use Rattle.stealing.proofs.Changed.{pushed_held}
use Rattle.stealing.proofs.laws.pushed_is_held.Goals as goal

pub returns : goal.returns
returns c = pushed_held
