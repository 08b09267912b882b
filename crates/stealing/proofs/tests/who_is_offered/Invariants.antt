use Rattle.stealing.proofs.tests.who_is_offered.Given as goal

abbrev pub ghosts-offers_in_order : goal.ghosts-offers_in_order
ghosts-offers_in_order g a = record { name = a.blank.name; parts = a.blank.parts }
