use Rattle.std.proofs.Common.{[]}
use Rattle.held_rows.specs.Rows.{row_programs}
use Rattle.held_rows.proofs.tests.yard.the_first_that_is_due_is_woken.Given as goal

-- the run that was just set up
abbrev pub ghosts-tried : goal.ghosts-tried
ghosts-tried g a = record { setup = a.setup; programs = row_programs; powers = []; desks = a.desks }
