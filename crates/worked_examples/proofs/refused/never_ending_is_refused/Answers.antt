-- At the select at 270000 the window is over, and stays.
use Rattle.std.proofs.Common.{refl, sym, ap}
use Rattle.std.proofs.lemmas.Bool.{false≢true}
use Rattle.flat_policy.specs.Policy.Windows.{window_over}
use Rattle.worked_examples.proofs.Starving.{law_at_run}
use Rattle.worked_examples.specs.Examples.WrongWindows.{never_ending}
use Rattle.worked_examples.proofs.refused.never_ending_is_refused.Goals as goal

pub returns : goal.returns
returns c law =
    let kept = law_at_run never_ending law in
    let renewed = kept.1.1.1.1.1.0.ending_renews refl
    in false≢true (sym (ap (window_over 2000 270000) renewed.0))
