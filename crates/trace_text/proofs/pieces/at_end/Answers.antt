use Rattle.std.proofs.Common.{ap, sym, ◌∙◌}
use Rattle.flat_policy.specs.Texts.Pieces.{at_end}
use Rattle.trace_text.proofs.Splitting.{not_at_end}
use Rattle.trace_text.specs.Reading.{left_of}
use Rattle.trace_text.proofs.pieces.at_end.Goals as goal

pub returns-in-Some : goal.returns-in-Some
returns-in-Some g c =
    sym (ap (λ r. at_end c.args.value (left_of r)) c.in-Some.is ∙ not_at_end c.args.value c.in-Some.field-0.now)
