use Rattle.trace_text.proofs.Naming.{word_found, word_missed}
use Rattle.trace_text.specs.Naming.{refusal_names}
use Rattle.trace_text.specs.Reading.{left}
use Rattle.trace_text.proofs.answers.refusal_word_at.Goals as goal

pub returns-in-Some : goal.returns-in-Some
returns-in-Some c =
    word_found refusal_names (left c.args.pieces) c.in_ok-piece.piece.now (left c.in_ok-piece.rest) c.in-Some.word c.in_ok-piece.ensures c.in-Some.ensures

pub returns-in-None : goal.returns-in-None
returns-in-None c =
    word_missed refusal_names (left c.args.pieces) c.in_ok-piece.piece.now (left c.in_ok-piece.rest) c.in_ok-piece.ensures c.in-None.ensures
