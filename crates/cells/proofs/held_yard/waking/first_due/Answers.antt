use Rattle.std.proofs.Common.{◌<◌, map, sym, subst}
use Rattle.cells.specs.Sleepers.{sleeper_of}
use Rattle.cells.specs.declared.held_yard.Resting.{Resting}
use Rattle.cells.proofs.FirstSleeper.{first_read, none_is_due}
use Rattle.cells.proofs.held_yard.waking.first_due.Goals as goal

pub returns-in_default-clause-none : goal.returns-in_default-clause-none
returns-in_default-clause-none c =
    none_is_due c.args.moment (sleeper_of c.index-blocked-i.result) (map sleeper_of c.args.blocked.now)
    (first_read sleeper_of c.args.blocked.now c.in-Some.i c.index-blocked-i.result c.in-Some.ensures.first c.index-blocked-i.is)
    (subst (λ (r : Resting). c.args.moment < r.due) (sym c.index-blocked-i.is) c.if-blocked-i.false)
