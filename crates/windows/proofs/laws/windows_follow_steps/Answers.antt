use Rattle.windows.proofs.Steps.{follow_steps}
use Rattle.windows.proofs.laws.windows_follow_steps.Goals as goal

pub returns : goal.returns
returns c = follow_steps
