use Rattle.std.proofs.Common.{arith}
use Rattle.held_rows.proofs.Lots.{lots_pay}
use Rattle.held_rows.proofs.tests.locking.three_lots.Goals as goal

pub returns-clause-first : goal.returns-clause-first
returns-clause-first g c = lots_pay g.N.RunName.setup 0 0 _ c.requires.pair.first_home (omega arith) c.in_ok-first.ensures.lines

pub returns-clause-third : goal.returns-clause-third
returns-clause-third g c = lots_pay g.N.RunName.setup 1 0 _ c.requires.pair.second_home (omega arith) c.in_ok-third.ensures.lines

pub returns-clause-second : goal.returns-clause-second
returns-clause-second g c = lots_pay g.N.RunName.setup 2 1 _ c.requires.pair.third_home (omega arith) c.in_ok-second.ensures.lines
