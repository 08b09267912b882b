use Rattle.trace_text.proofs.RunLines.{program_lines_exact}
use Rattle.trace_text.proofs.laws.program_lines_are_exact.Goals as goal

pub returns : goal.returns
returns c = program_lines_exact
