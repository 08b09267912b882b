use Rattle.std.proofs.Common.{◌≡◌, ◌≤◌, ◌-◌, List, Option, ℕ}
use Rattle.std.specs.Prelude.{IsTrue}
use Rattle.sched_base.specs.Limits.{input_bytes}
use Rattle.trace_replay.specs.UnderWay.{IsUnderWay}
use Rattle.trace_replay.proofs.lines.answer_lines.Given as goal

-- the replay is still under way, from the start that it had, and no device failed
abbrev pub invariant-loop-trace : goal.invariant-loop-trace
invariant-loop-trace g l =
    record {
      way : (start begun : Option (List ℕ)) → IsUnderWay start begun l.fn.trace l.fn.feed (g.S.Source.left l.fn.source) (g.K.Sink.taken l.fn.sink)
          → IsUnderWay start begun l.trace l.feed (g.S.Source.left l.source) (g.K.Sink.taken l.sink);
      read_later : g.S.Source.faults l.fn.source ≤ g.S.Source.faults l.source;
      write_later : g.K.Sink.faults l.fn.sink ≤ g.K.Sink.faults l.sink;
      read_exact : IsTrue g.S.Source.is_exact → g.S.Source.faults l.source ≡ g.S.Source.faults l.fn.source;
      write_exact : IsTrue g.K.Sink.is_exact → g.K.Sink.faults l.sink ≡ g.K.Sink.faults l.fn.sink;
    }

-- each turn gives a line and its newline
abbrev pub decreases-loop-trace : goal.decreases-loop-trace
decreases-loop-trace g l = input_bytes - l.feed.passed
