use Rattle.clutch_bucket.proofs.ranks.tests.units_take_turns.Given as goal

abbrev pub ghosts-take_turns : goal.ghosts-take_turns
ghosts-take_turns g a = record { name = a.blank.name; parts = a.blank.parts }
