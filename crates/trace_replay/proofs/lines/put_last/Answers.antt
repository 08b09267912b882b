use Rattle.std.proofs.Common.{◌≡◌, ◌≢◌, sym, subst}
use Rattle.trace_replay.proofs.Putting.{cut_cause, cut_ends, cut_once, cut_same, no_write_cause, nothing_to_cut, put_went, stop_put}
use Rattle.trace_replay.specs.Statuses.{HasWriteCause, PutsOnce}
use Rattle.trace_replay.specs.declared.status.ReplayStatus.TheVariants as statuses
use Rattle.trace_replay.specs.UnderWay.{HasEnded}
use Rattle.trace_replay.proofs.lines.put_last.Goals as goal

pub returns-in-Ok-clause-ended : goal.returns-in-Ok-clause-ended
returns-in-Ok-clause-ended g c start begun left stop =
    stop_put start begun c.args.trace.now.page left (g.K.Sink.taken c.args.sink.now) (g.K.Sink.taken c.put.new.sink) c.args.status stop c.in-Ok.ensures.ok

pub returns-in-Ok-clause-cause : goal.returns-in-Ok-clause-cause
returns-in-Ok-clause-cause g c = no_write_cause _ _ c.args.status c.requires.unlike

pub returns-in-Ok-clause-exact : goal.returns-in-Ok-clause-exact
returns-in-Ok-clause-exact g c exact = put_went _ _ _ c.args.status c.requires.unlike (c.in-Ok.ensures.exact exact).ok

pub returns-in-Err-clause-ended : goal.returns-in-Err-clause-ended
returns-in-Err-clause-ended g c start begun left stop =
    subst (HasEnded start begun left (g.K.Sink.taken c.put.new.sink)) (sym c.when_cut.ensures)
    (cut_ends start begun c.args.trace.now.page left (g.K.Sink.taken c.args.sink.now) (g.K.Sink.taken c.put.new.sink) c.args.status stop c.in-Err.ensures.err)

pub returns-in-Err-clause-same : goal.returns-in-Err-clause-same
returns-in-Err-clause-same g c = subst (λ s. (s ≢ statuses.WriteFault) → s ≡ c.args.status) (sym c.when_cut.ensures) (cut_same c.args.status)

pub returns-in-Err-clause-nothing : goal.returns-in-Err-clause-nothing
returns-in-Err-clause-nothing g c empty = absurd (nothing_to_cut _ _ c.args.trace.now.page empty c.in-Err.ensures.err)

pub returns-in-Err-clause-cause : goal.returns-in-Err-clause-cause
returns-in-Err-clause-cause g c = subst (HasWriteCause _ _) (sym c.when_cut.ensures) (cut_cause _ _ c.args.status c.in-Err.ensures.cause.failed)

pub returns-in-Err-clause-exact : goal.returns-in-Err-clause-exact
returns-in-Err-clause-exact g c exact = subst (PutsOnce _ _ _) (sym c.when_cut.ensures) (cut_once _ _ _ c.args.status (c.in-Err.ensures.exact exact).failed)
