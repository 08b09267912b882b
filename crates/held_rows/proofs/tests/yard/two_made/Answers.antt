use Rattle.std.proofs.Common.{sym, subst, arith}
use Rattle.std.specs.List.{Contains}
use Rattle.flat_policy.specs.Runs.Worker.{Program}
use Rattle.held_rows.specs.Rows.{row_programs}
use Rattle.held_rows.proofs.Tried.{second_is_there}
use Rattle.held_rows.proofs.tests.yard.two_made.Goals as goal

pub made-requires-clause-rights : goal.made-requires-clause-rights
made-requires-clause-rights g c = c.has_rights.ensures 0 (omega arith) c.requires.few

pub made-requires-2-clause-program : goal.made-requires-2-clause-program
made-requires-2-clause-program g c = subst (λ (p : Program). Contains row_programs p) (sym c.program-2.ensures) second_is_there

pub made-requires-2-clause-rights : goal.made-requires-2-clause-rights
made-requires-2-clause-rights g c = c.has_rights-2.ensures 1 (omega arith) (c.in_ok-three.ensures.few 0 c.requires.few)
