use Rattle.clutch_bucket.proofs.lane.tests.one_thread.Given as goal

abbrev pub ghosts-one_alone : goal.ghosts-one_alone
ghosts-one_alone g a = record { name = a.blank.name; parts = a.blank.parts }
