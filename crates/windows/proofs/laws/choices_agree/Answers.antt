use Rattle.windows.proofs.Following.{agrees}
use Rattle.windows.proofs.laws.choices_agree.Goals as goal

pub returns : goal.returns
returns c = agrees
