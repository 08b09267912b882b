use Rattle.std.proofs.Common.{◌∙◌, arith}
use Rattle.trace_replay.proofs.Putting.{may_answer, may_end}
use Rattle.trace_replay.proofs.lines.answer_lines.Goals as goal

pub make_ready-requires : goal.make_ready-requires
make_ready-requires g c = record { «open» = (c.loop-trace.invariant.way c.requires.way.0 c.requires.way.1 c.requires.way.2).open_still }

pub answer_next-requires-clause-ready : goal.answer_next-requires-clause-ready
answer_next-requires-clause-ready g c =
    let way = c.loop-trace.invariant.way c.requires.way.0 c.requires.way.1 c.requires.way.2 in
    may_answer c.requires.way.0 c.requires.way.1 c.make_ready.new.trace c.loop-trace.feed (g.S.Source.left c.loop-trace.source) (g.K.Sink.taken c.make_ready.new.sink)
    (c.in_default.ensures.ok c.requires.way.0 c.requires.way.1 (g.S.Source.left c.loop-trace.source) c.loop-trace.feed way)

pub answer_next-requires-clause-open : goal.answer_next-requires-clause-open
answer_next-requires-clause-open g c = (c.loop-trace.invariant.way c.requires.way.0 c.requires.way.1 c.requires.way.2).open_still

pub loop-trace-preserved : goal.loop-trace-preserved
loop-trace-preserved g c =
    let so_far = c.loop-trace.invariant in
    record {
      way = λ start begun way.
          c.in_default-answer_next.ensures.ok start begun (g.K.Sink.taken c.make_ready.new.sink)
          (c.in_default.ensures.ok start begun (g.S.Source.left c.loop-trace.source) c.loop-trace.feed (so_far.way start begun way));
      read_later = omega (arith, so_far.read_later, c.in_default-answer_next.ensures.later);
      write_later = omega (arith, so_far.write_later, c.in_default.ensures.cause.later);
      read_exact = λ exact. c.in_default-answer_next.ensures.goes exact ∙ so_far.read_exact exact;
      write_exact = λ exact. (c.in_default.ensures.exact exact).ok ∙ so_far.write_exact exact;
    }

pub returns-in-Err-clause-ended : goal.returns-in-Err-clause-ended
returns-in-Err-clause-ended g c start begun way =
    c.in-Err.ensures.err start begun (g.S.Source.left c.loop-trace.source) c.loop-trace.feed (c.loop-trace.invariant.way start begun way)

pub returns-in-Err-clause-machine : goal.returns-in-Err-clause-machine
returns-in-Err-clause-machine g c =
    let way = c.loop-trace.invariant.way c.requires.way.0 c.requires.way.1 c.requires.way.2 in
    may_end c.loop-trace.trace c.make_ready.new.trace
    (may_answer c.requires.way.0 c.requires.way.1 c.loop-trace.trace c.loop-trace.feed (g.S.Source.left c.loop-trace.source) (g.K.Sink.taken c.loop-trace.sink) way)
    c.make_ready.ensures.keeps

pub returns-in-Err-answer_next-clause-ended : goal.returns-in-Err-answer_next-clause-ended
returns-in-Err-answer_next-clause-ended g c start begun way =
    c.put_last.ensures.ended start begun (g.S.Source.left c.answer_next.new.source)
    (c.in-Err-answer_next.ensures.err start begun (g.K.Sink.taken c.make_ready.new.sink)
    (c.in_default.ensures.ok start begun (g.S.Source.left c.loop-trace.source) c.loop-trace.feed (c.loop-trace.invariant.way start begun way)))
