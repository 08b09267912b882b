use Rattle.rights.proofs.desk.Desk.burn.Given as goal

abbrev pub ghosts-burn_by : goal.ghosts-burn_by
ghosts-burn_by a = record { count = a.n }
