-- The act that should be an offer is not one.
use Rattle.std.proofs.Common.{refl, inl, inr, [], ◌∷◌}
use Rattle.flat_policy.specs.Runs.Worker.{Turn}
use Rattle.sched_base.specs.declared.Act.TheVariants as acts
use Rattle.worked_examples.proofs.Differ.{acts_differ}
use Rattle.worked_examples.specs.Examples.Merging.{asks_yard, select_of_0}
use Rattle.worked_examples.specs.Examples.Offering.{offering_run}
use Rattle.worked_examples.proofs.refused.idle_needs_offers.Goals as goal

without : Turn offering_run 0 0 (asks_yard ∷ select_of_0 ∷ asks_yard ∷ []) → ⊥
without (inl (name, wakes, placed)) = acts_differ acts.Blocked (acts.Wake name) wakes refl
without (inr (asks, (selects, (offers, ends)))) = acts_differ acts.Blocked (acts.Offer 1) offers refl

pub returns : goal.returns
returns c = (inr (refl, (refl, (refl, inr (asks_yard, refl, (refl, refl))))), without)
