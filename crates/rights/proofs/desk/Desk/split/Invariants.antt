use Rattle.rights.proofs.desk.Desk.split.Given as goal

abbrev pub ghosts-split_by : goal.ghosts-split_by
ghosts-split_by a = record { count = a.n }
