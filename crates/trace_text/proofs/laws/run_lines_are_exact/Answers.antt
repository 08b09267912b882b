use Rattle.trace_text.proofs.RunLines.{run_lines_exact}
use Rattle.trace_text.proofs.laws.run_lines_are_exact.Goals as goal

pub returns : goal.returns
returns c = run_lines_exact
