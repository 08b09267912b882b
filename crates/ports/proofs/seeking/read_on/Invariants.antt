use Rattle.std.proofs.Common.{◌≡◌, ◌+◌, ◌-◌, ◌≤◌, length}
use Rattle.std.specs.Prelude.{IsTrue}
use Rattle.std.specs.Io.{StartsWith}
use Rattle.std.specs.Io.KnownBytes.{Keeps, prepend_known}
use Rattle.ports.specs.Lines.{IsOpen}
use Rattle.ports.proofs.seeking.read_on.Given as goal

-- the bytes in hand still decide nothing
abbrev pub invariant-loop-buffer : goal.invariant-loop-buffer
invariant-loop-buffer g l =
    record {
      open_still : IsOpen l.limit l.counted l.buffer;
      keeps : StartsWith l.buffer l.fn.buffer;
      bytes : Keeps (prepend_known l.fn.buffer (g.S.Source.left l.fn.source)) (prepend_known l.buffer (g.S.Source.left l.source));
      later : g.S.Source.faults l.fn.source ≤ g.S.Source.faults l.source;
      exact : IsTrue g.S.Source.is_exact → g.S.Source.faults l.source ≡ g.S.Source.faults l.fn.source;
    }

-- each turn takes a byte, and ends where there are more than the limit
abbrev pub decreases-loop-buffer : goal.decreases-loop-buffer
decreases-loop-buffer g l = l.limit + 1 - length l.buffer
