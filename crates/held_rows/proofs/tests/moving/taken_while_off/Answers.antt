use Rattle.std.proofs.Common.{arith}
use Rattle.held_rows.proofs.tests.moving.taken_while_off.Goals as goal

pub made-requires-clause-rights : goal.made-requires-clause-rights
made-requires-clause-rights g c = c.has_rights.ensures 0 (omega arith) (c.in_ok-lines.ensures.few 0 c.requires.few)
