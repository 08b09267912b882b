use Rattle.thread_queue.proofs.uncounted.make_change.Given as goal

abbrev pub ghosts-make_change_by : goal.ghosts-make_change_by
ghosts-make_change_by a = record { name = a.blank.name; parts = a.blank.parts }
