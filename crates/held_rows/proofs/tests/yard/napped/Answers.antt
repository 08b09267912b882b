use Rattle.held_rows.proofs.tests.yard.napped.Goals as goal

pub two_made-requires-clause-few : goal.two_made-requires-clause-few
two_made-requires-clause-few g c = c.in_ok-lines.ensures.few 0 c.requires.few
