-- After the opening stands no off.
use Rattle.std.proofs.Common.{refl, ap, ◌∙◌, ◌≡◌, List, [], ◌∷◌, ◌++◌, drop, take}
use Rattle.sched_base.specs.declared.Act.TheVariants as acts
use Rattle.flat_policy.specs.declared.journal.Line.{Line}
use Rattle.flat_policy.specs.Runs.Histories.{act_of}
use Rattle.flat_policy.specs.Runs.Worker.{Turn}
use Rattle.worked_examples.proofs.Differ.{acts_differ, first_or}
use Rattle.worked_examples.proofs.Openings.{first_turn}
use Rattle.worked_examples.specs.Examples.Merging.{asks_yard}
use Rattle.worked_examples.specs.Examples.Powers.{off_in_turn_0, power_log, power_program, power_run}
use Rattle.worked_examples.proofs.refused.off_is_needed.Goals as goal

abbrev without_off : List Line
without_off = take 3 power_log ++ drop 4 power_log

begins_with_off : (first more : List Line) → drop 3 without_off ≡ first ++ more → Turn power_run 0 0 first → ⊥
begins_with_off [] more is turn = absurd turn
begins_with_off (l ∷ ls) more is turn = acts_differ acts.Blocked (acts.Off 0) (ap (λ ls. act_of (first_or asks_yard ls)) is ∙ turn.0) refl

pub returns : goal.returns
returns c w =
    let turn = first_turn power_program (off_in_turn_0 ∷ []) without_off w
    in begins_with_off turn.0 turn.1 turn.2 turn.3
