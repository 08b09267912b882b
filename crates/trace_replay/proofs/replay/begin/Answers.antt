use Rattle.std.proofs.Common.{◌∙◌, subst}
use Rattle.std.specs.Io.KnownBytes.{Appends}
use Rattle.ports.specs.Devices.{AppendsPart}
use Rattle.trace_replay.proofs.replay.begin.Goals as goal

pub returns-in-Err-clause-err : goal.returns-in-Err-clause-err
returns-in-Err-clause-err g c =
    subst (AppendsPart (g.K.Sink.taken c.args.sink.now) (g.K.Sink.taken c.put_all.new.sink)) (c.deref.ensures.value ∙ c.in_ok-line.ensures) c.in-Err.ensures.err

pub returns-in-Err-clause-exact : goal.returns-in-Err-clause-exact
returns-in-Err-clause-exact g c exact = (c.in-Err.ensures.exact exact).failed

pub returns-clause-ok : goal.returns-clause-ok
returns-clause-ok g c = (
  c.in_ok-trace.ensures,
  subst (Appends (g.K.Sink.taken c.args.sink.now) (g.K.Sink.taken c.put_all.new.sink)) (c.deref.ensures.value ∙ c.in_ok-line.ensures) c.in_default.ensures.ok,
)
