-- At the select at 270000 the window ends, but the deadline is still 250000.
use Rattle.std.proofs.Common.{refl, arith, ◌≡◌}
use Rattle.worked_examples.proofs.Starving.{law_at_run}
use Rattle.worked_examples.specs.Examples.WrongWindows.{keeping_deadlines}
use Rattle.worked_examples.proofs.refused.keeping_deadlines_is_refused.Goals as goal

pub returns : goal.returns
returns c law =
    let kept = law_at_run keeping_deadlines law in
    let renewed = kept.1.1.1.1.1.0.ending_renews refl in
    let same : 250000 ≡ 520000 = renewed.1
    in omega (arith, same)
