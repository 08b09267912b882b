use Rattle.trace_text.proofs.WholeLines.{answers_again}
use Rattle.trace_text.proofs.laws.answers_read_again.Goals as goal

pub returns : goal.returns
returns c = answers_again
