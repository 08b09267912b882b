use Rattle.pairing_heap.proofs.heap.Heap.push_uncounted.Given as goal

abbrev pub ghosts-add_by : goal.ghosts-add_by
ghosts-add_by g a = record { name = a.blank.name; parts = a.blank.parts }
