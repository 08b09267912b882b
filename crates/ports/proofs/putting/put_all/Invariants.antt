use Rattle.std.proofs.Common.{◌≡◌, ◌-◌, ◌≤◌, length, take}
use Rattle.std.specs.Prelude.{IsTrue}
use Rattle.std.specs.Io.KnownBytes.{Appends}
use Rattle.ports.proofs.putting.put_all.Given as goal

-- the first bytes were taken, and no put failed
abbrev pub invariant-loop-written : goal.invariant-loop-written
invariant-loop-written g l =
    record {
      bytes : Appends (g.K.Sink.taken l.fn.sink) (g.K.Sink.taken l.sink) (take l.written l.from);
      within : l.written ≤ length l.from;
      later : g.K.Sink.faults l.fn.sink ≤ g.K.Sink.faults l.sink;
      exact : IsTrue g.K.Sink.is_exact → g.K.Sink.faults l.sink ≡ g.K.Sink.faults l.fn.sink;
    }

-- each turn takes a byte
abbrev pub decreases-loop-written : goal.decreases-loop-written
decreases-loop-written g l = length l.from - l.written
