use Rattle.std.proofs.Common.{Result, ap, sym, ◌∙◌}
use Rattle.flat_policy.specs.declared.texts.LineFault.{LineFault}
use Rattle.trace_replay.specs.Traces.{setup_of}
use Rattle.trace_replay.proofs.Taking.{fitting_line, said_line}
use Rattle.trace_text.specs.Acting.{unless_fault}
use Rattle.trace_replay.proofs.trace.Trace.answer_line.Goals as goal

pub take-requires-clause-fits : goal.take-requires-clause-fits
take-requires-clause-fits g c =
    fitting_line (setup_of c.args.self.now) c.args.line.now c.read.new.given
    (sym c.read.ensures ∙ ap (λ (r : Result Unit LineFault). unless_fault r c.read.new.given) c.in-Ok.is)

pub take-requires-clause-says : goal.take-requires-clause-says
take-requires-clause-says g c =
    said_line (setup_of c.args.self.now) c.args.line.now c.read.new.given
    (sym c.read.ensures ∙ ap (λ (r : Result Unit LineFault). unless_fault r c.read.new.given) c.in-Ok.is)
