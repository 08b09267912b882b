use Rattle.std.proofs.Common.{◌≡◌, ◌+◌}
use Rattle.std.specs.Prelude.{vec_len}
use Rattle.cells.proofs.held_yard.end_all.Given as goal

abbrev pub invariant-loop : goal.invariant-loop
invariant-loop l = vec_len l.blocked + l.counter ≡ l.end
