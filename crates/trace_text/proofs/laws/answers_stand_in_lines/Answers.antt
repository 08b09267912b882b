use Rattle.trace_text.proofs.OneLine.{answers_in_lines}
use Rattle.trace_text.proofs.laws.answers_stand_in_lines.Goals as goal

pub returns : goal.returns
returns c = answers_in_lines
