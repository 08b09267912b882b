use Rattle.pairing_heap.proofs.tests.heaps_of_three_slots.Given as goal

abbrev pub ghosts-leave_in_order : goal.ghosts-leave_in_order
ghosts-leave_in_order g a = record { name = a.blank.name; parts = a.blank.parts }

abbrev pub ghosts-rekey_and_clear : goal.ghosts-rekey_and_clear
ghosts-rekey_and_clear g a = record { name = a.blank.name; parts = a.blank.parts }
