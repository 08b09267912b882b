use Rattle.trace_machine.proofs.parts.making.end_hands.Given as goal

abbrev pub decreases-loop-hand : goal.decreases-loop-hand
decreases-loop-hand l = goal.left-loop-hand l
