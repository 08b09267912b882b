use Rattle.std.proofs.Common.{subst}
use Rattle.cells.specs.Desks.{AreFresh}
use Rattle.cells.proofs.Books.{last_is_fresh, last_stands, rest_fresh}
use Rattle.cells.proofs.desk_set.DeskSet.take_last.Goals as goal

pub returns-clause-fresh : goal.returns-clause-fresh
returns-clause-fresh c = rest_fresh c.args.self.now c.pop.new.self.items c.pop.result (subst (AreFresh c.args.self.now) c.pop.ensures.items c.requires.fresh)

pub returns-clause-desk : goal.returns-clause-desk
returns-clause-desk c = last_stands c.args.self.now c.pop.new.self.items c.pop.result (subst (AreFresh c.args.self.now) c.pop.ensures.items c.requires.fresh)

pub returns-clause-book : goal.returns-clause-book
returns-clause-book c = last_is_fresh c.args.self.now c.pop.new.self.items c.pop.result (subst (AreFresh c.args.self.now) c.pop.ensures.items c.requires.fresh)
