use Rattle.trace_text.proofs.Begun.{fits_unless_fault}
use Rattle.trace_text.proofs.lines.read_step_into.Goals as goal

pub returns-clause-fits : goal.returns-clause-fits
returns-clause-fits c =
    fits_unless_fault c.args.line.now c.read_pieces.new.given c.read_pieces.result c.read_pieces.ensures
