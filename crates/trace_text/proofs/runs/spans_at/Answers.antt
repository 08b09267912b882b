use Rattle.std.proofs.Common.{[], arith, length, rules, take, ◌+◌, ◌<◌, ◌≢◌}
use Rattle.std.proofs.lemmas.List.{length-set}
use Rattle.std.proofs.lemmas.Result.{err_from_is_err_and}
use Rattle.flat_policy.specs.Texts.Lines.{spans_at}
use Rattle.trace_text.proofs.Spans.{list_more, list_unused, spans_more, spans_stop, spans_stop_later}
use Rattle.trace_text.specs.Reading.{left}
use Rattle.trace_text.proofs.runs.spans_at.Goals as goal

pub returns-in_err-sleep-clause-exact : goal.returns-in_err-sleep-clause-exact
returns-in_err-sleep-clause-exact c =
    let p = err_from_is_err_and c.from_residual-in_err-sleep.result c.from_residual-in_err-sleep.ensures.1 in
    let some : left c.loop.rest ≢ [] = search rules in
    rw (p.1, p.2) (spans_stop (take c.loop.count c.loop.list) c.loop.counter (left c.loop.rest) c.in_err-sleep.field-0.0 (spans_at (left c.args.pieces)) c.loop-test.true some c.in_err-sleep.ensures c.loop.invariant.read)

pub returns-in_err-run-clause-exact : goal.returns-in_err-run-clause-exact
returns-in_err-run-clause-exact c =
    let p = err_from_is_err_and c.from_residual-in_err-run.result c.from_residual-in_err-run.ensures.1 in
    rw (p.1, p.2) (spans_stop_later (take c.loop.count c.loop.list) c.loop.counter (left c.loop.rest) (left c.in_ok-sleep.after) c.in_ok-sleep.sleep c.in_err-run.field-0.0 (spans_at (left c.args.pieces)) c.loop-test.true c.in_ok-sleep.ensures c.in_err-run.ensures c.loop.invariant.read)

pub loop-preserved : goal.loop-preserved
loop-preserved c =
    let list = c.loop.list in
    let n = c.loop.count in
    let sleep = c.in_ok-sleep.sleep in
    let run = c.in_ok-run.run' in
    let within : n + 1 < length list = omega arith in
    record {
      count = omega arith;
      long = simp length-set c.loop.invariant.long;
      unused = list_unused list n sleep run c.loop.invariant.unused;
      read = rw (list_more list n sleep run within) (spans_more (take n list) c.loop.counter (left c.loop.rest) (left c.in_ok-sleep.after) (left c.in_ok-run.after) sleep run (spans_at (left c.args.pieces)) c.loop-test.true c.in_ok-sleep.ensures c.in_ok-run.ensures c.loop.invariant.read);
    }
