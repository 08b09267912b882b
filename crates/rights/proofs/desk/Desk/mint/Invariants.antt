use Rattle.rights.proofs.desk.Desk.mint.Given as goal

abbrev pub ghosts-mint_by : goal.ghosts-mint_by
ghosts-mint_by a = record { count = a.n }
