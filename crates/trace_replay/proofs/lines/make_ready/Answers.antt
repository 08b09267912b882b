use Rattle.trace_replay.proofs.Putting.{on_err, on_ok, page_cut, page_put}
use Rattle.trace_replay.proofs.lines.make_ready.Goals as goal

pub returns-else-has_room-clause-ok : goal.returns-else-has_room-clause-ok
returns-else-has_room-clause-ok g c =
    on_ok c.put.result
    (λ put start begun left f way. page_put start begun c.args.trace.now c.put.new.self f left (g.K.Sink.taken c.args.sink.now) (g.K.Sink.taken c.put.new.sink) way put c.put.ensures.page)
    c.put.ensures.ok

pub returns-else-has_room-clause-err : goal.returns-else-has_room-clause-err
returns-else-has_room-clause-err g c =
    on_err c.put.result
    (λ part start begun left f way. page_cut start begun c.args.trace.now f left (g.K.Sink.taken c.args.sink.now) (g.K.Sink.taken c.put.new.sink) way part)
    c.put.ensures.err
