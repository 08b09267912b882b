use Rattle.windows.proofs.WarpRuns.{warp_law_is}
use Rattle.windows.proofs.laws.warp_law.Goals as goal

pub returns : goal.returns
returns c = warp_law_is
