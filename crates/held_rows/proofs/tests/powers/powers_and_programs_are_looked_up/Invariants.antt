use Rattle.held_rows.specs.Rows.{row_powers, row_programs}
use Rattle.held_rows.proofs.tests.powers.powers_and_programs_are_looked_up.Given as goal

-- the run that was just set up
abbrev pub ghosts-tried : goal.ghosts-tried
ghosts-tried g a = record { setup = a.setup; programs = row_programs; powers = row_powers; desks = a.desks }
