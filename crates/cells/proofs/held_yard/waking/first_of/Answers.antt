use Rattle.std.proofs.Common.{◌≡◌, ◌<◌, length, subst, arith}
use Rattle.std.specs.List.{IsFirstBest}
use Rattle.std.proofs.lemmas.Bool.Decides.{nat_tests}
use Rattle.flat_policy.specs.Runs.Histories.{wakes_before}
use Rattle.cells.specs.Sleepers.{sleeper_of}
use Rattle.cells.specs.declared.held_yard.Resting.{Resting}
use Rattle.cells.proofs.FirstSleeper.{first_at}
use Rattle.cells.proofs.held_yard.waking.first_of.Goals as goal

pub returns-clause-first : goal.returns-clause-first
returns-clause-first c =
    let some : 0 < length c.args.blocked.now = grind (arith, nat_tests, c.if-is_empty.ensures) in
    let whole : c.loop-i.i ≡ length c.args.blocked.now = omega arith in
    first_at sleeper_of c.args.blocked.now c.loop-i.best
    (subst (λ i. IsFirstBest (λ (x y : Resting). wakes_before (sleeper_of x) (sleeper_of y)) c.args.blocked.now i c.loop-i.best) whole c.loop-i.invariant)
