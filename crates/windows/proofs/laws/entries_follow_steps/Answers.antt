use Rattle.windows.proofs.LaneEntries.{entries_follow}
use Rattle.windows.proofs.laws.entries_follow_steps.Goals as goal

pub returns : goal.returns
returns c = entries_follow
