use Rattle.windows.proofs.StarvationRuns.{starvation_law_is}
use Rattle.windows.proofs.laws.starvation_law.Goals as goal

pub returns : goal.returns
returns c = starvation_law_is c.setups_have_quanta.ensures
