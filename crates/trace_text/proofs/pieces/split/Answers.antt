use Rattle.std.proofs.Common.{add-one}
use Rattle.std.proofs.lemmas.List.{take_rest}
use Rattle.trace_text.proofs.Splitting.{pieces_split, pieces_whole}
use Rattle.trace_text.proofs.pieces.split.Goals as goal

pub returns-in-Some : goal.returns-in-Some
returns-in-Some c =
    let first = c.in-Some.ensures.found in
    rw (take_rest, add-one) (pieces_split c.args.text.now c.in-Some.i first.within first.here first.before)

pub returns-in-None : goal.returns-in-None
returns-in-None c = pieces_whole c.args.text.now c.in-None.ensures.none
