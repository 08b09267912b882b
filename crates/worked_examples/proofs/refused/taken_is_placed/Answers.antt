-- Nothing follows the wake.
use Rattle.std.proofs.Common.{refl, inl, inr, ◌∙◌, ap, []}
use Rattle.flat_policy.specs.Runs.Histories.{act_of}
use Rattle.flat_policy.specs.Runs.Worker.{Turn}
use Rattle.sched_base.specs.declared.Act.TheVariants as acts
use Rattle.worked_examples.proofs.Differ.{acts_differ, first_or, not_placed}
use Rattle.worked_examples.specs.Examples.Merging.{asks_yard}
use Rattle.worked_examples.specs.Examples.OneThread.{one_run}
use Rattle.worked_examples.specs.Examples.Refused.{one_line, waking_turn}
use Rattle.worked_examples.specs.Rows.Run.{one_cluster}
use Rattle.std.specs.Prelude.{take}
use Rattle.worked_examples.proofs.refused.taken_is_placed.Goals as goal

unplaced : Turn one_run 0 1 (take 3 waking_turn) → ⊥
unplaced (inl (name, wakes, placed)) = acts_differ acts.Blocked (acts.Wake name) wakes refl
unplaced (inr (asks, (selects, inl (name, wakes, placed)))) = not_placed one_cluster _ placed
unplaced (inr (asks, (selects, inr (l, is, (blocked, left))))) =
    acts_differ (acts.Wake 1) acts.Blocked (ap (λ ls. act_of (first_or asks_yard ls)) is ∙ blocked) refl

pub returns : goal.returns
returns c = (
  inr (refl, (refl, inl (1, refl, record { looks = []; aimed = one_line 10; enters = one_line 11; cluster = 0; whole = refl; each_look = refl; aim_line = (refl, refl); enter_line = refl }))),
  unplaced,
)
