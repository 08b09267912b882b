-- At the wake there is no event.
use Rattle.std.proofs.Common.{refl}
use Rattle.std.proofs.lemmas.Option.{none-some}
use Rattle.flat_policy.specs.Runs.Histories.{RunYard, YRun}
use Rattle.worked_examples.specs.Examples.Refused.{yard_waking_at}
use Rattle.worked_examples.specs.Rows.Run.{one_cluster}
use Rattle.worked_examples.proofs.refused.wake_is_due.Goals as goal

too_early : (end : RunYard) → YRun one_cluster (yard_waking_at 6999) end → ⊥
too_early end h = let step = h.1.1.1.1.0 in none-some step.event step.happens

pub returns : goal.returns
returns c = (refl, too_early)
