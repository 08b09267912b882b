use Rattle.std.proofs.Common.{drop, length, replicate, take, ◌+◌, ◌-◌, ◌≡◌}
use Rattle.flat_policy.specs.Texts.Lines.{span_pairs, spans_at}
use Rattle.trace_text.proofs.Spans.{after_spans}
use Rattle.trace_text.specs.Reading.{left}
use Rattle.trace_text.proofs.runs.spans_at.Given as goal

abbrev pub invariant-loop : goal.invariant-loop
invariant-loop l =
    record {
      count : l.count ≡ l.counter + l.counter + 1;
      long : length l.list ≡ 15;
      unused : drop l.count l.list ≡ replicate (15 - l.count) 0;
      read : after_spans (take l.count l.list) (span_pairs (7 - l.counter) (left l.rest)) ≡ spans_at (left l.fn.pieces);
    }
