use Rattle.trace_text.proofs.LinesBack.{lines_exact}
use Rattle.trace_text.proofs.laws.lines_are_exact.Goals as goal

pub returns : goal.returns
returns c = lines_exact
