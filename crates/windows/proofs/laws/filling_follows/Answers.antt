use Rattle.windows.proofs.Following.{follows}
use Rattle.windows.proofs.laws.filling_follows.Goals as goal

pub returns : goal.returns
returns c = follows
