use Rattle.std.proofs.Common.{length, take, ◌+◌, ◌++◌, ◌≡◌}
use Rattle.trace_text.proofs.placing.put_word.Given as goal

abbrev pub invariant-loop-i : goal.invariant-loop-i
invariant-loop-i l =
    record {
      text : take (l.at + l.i) l.room ≡ take l.at l.fn.room ++ take l.i l.word;
      long : length l.room ≡ length l.fn.room;
    }
