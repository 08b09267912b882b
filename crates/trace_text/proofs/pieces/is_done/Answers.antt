use Rattle.trace_text.proofs.Splitting.{done_is}
use Rattle.trace_text.proofs.pieces.is_done.Goals as goal

pub returns : goal.returns
returns c = done_is c.args.pieces.rest c.is_none.result c.is_none.ensures
