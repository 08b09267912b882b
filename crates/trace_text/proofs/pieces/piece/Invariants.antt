use Rattle.std.proofs.Common.{◌≡◌, ◌-◌}
use Rattle.flat_policy.specs.Texts.Pieces.{pieces}
use Rattle.trace_text.specs.Reading.{left, piece_among}
use Rattle.trace_text.proofs.pieces.piece.Given as goal

abbrev pub invariant-loop : goal.invariant-loop
invariant-loop l = piece_among (left l.rest) (l.k - l.counter) ≡ piece_among (pieces l.line) l.k
