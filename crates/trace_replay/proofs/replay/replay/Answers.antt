use Rattle.trace_replay.proofs.Starting.{ends_at_once, ends_beginning, ends_first_line, way_begins}
use Rattle.trace_replay.proofs.replay.replay.Goals as goal

pub returns-in_default-clause-ended : goal.returns-in_default-clause-ended
returns-in_default-clause-ended g c = ends_at_once (g.S.Source.left c.args.source.now) (g.K.Sink.taken c.args.sink.now)

pub returns-in-Err-clause-ended : goal.returns-in-Err-clause-ended
returns-in-Err-clause-ended g c =
    ends_first_line (g.S.Source.left c.args.source.now) (g.S.Source.left c.first_line.new.source) (g.K.Sink.taken c.args.sink.now) c.in-Err.status c.in-Err.ensures.err

pub returns-in-Err-begin-clause-ended : goal.returns-in-Err-begin-clause-ended
returns-in-Err-begin-clause-ended g c =
    ends_beginning c.in-Ok-first_line.setup c.first_line.new.feed (g.S.Source.left c.args.source.now) (g.S.Source.left c.first_line.new.source) (g.K.Sink.taken c.args.sink.now)
    (g.K.Sink.taken c.begin.new.sink) c.in-Err-begin.status c.in-Ok-first_line.ensures.ok c.in-Err-begin.ensures.err

pub answer_lines-status-requires : goal.answer_lines-status-requires
answer_lines-status-requires g c = record {
  way = (
    g.S.Source.left c.args.source.now,
    g.K.Sink.taken c.args.sink.now,
    way_begins c.in-Ok-first_line.setup c.in-Ok-begin.trace c.first_line.new.feed (g.S.Source.left c.args.source.now) (g.S.Source.left c.first_line.new.source)
        (g.K.Sink.taken c.args.sink.now) (g.K.Sink.taken c.begin.new.sink) c.in-Ok-first_line.ensures.ok c.in-Ok-begin.ensures.ok.0 c.in-Ok-begin.ensures.ok.1,
  );
}

pub returns-clause-ended : goal.returns-clause-ended
returns-clause-ended g c =
    c.answer_lines-status.ensures.ended (g.S.Source.left c.args.source.now) (g.K.Sink.taken c.args.sink.now)
    (way_begins c.in-Ok-first_line.setup c.in-Ok-begin.trace c.first_line.new.feed (g.S.Source.left c.args.source.now) (g.S.Source.left c.first_line.new.source)
    (g.K.Sink.taken c.args.sink.now) (g.K.Sink.taken c.begin.new.sink) c.in-Ok-first_line.ensures.ok c.in-Ok-begin.ensures.ok.0 c.in-Ok-begin.ensures.ok.1)
