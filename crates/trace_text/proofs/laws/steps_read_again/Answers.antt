use Rattle.trace_text.proofs.WholeLines.{steps_again}
use Rattle.trace_text.proofs.laws.steps_read_again.Goals as goal

pub returns : goal.returns
returns c = steps_again
