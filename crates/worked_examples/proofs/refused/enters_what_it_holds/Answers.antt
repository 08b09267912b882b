-- The hand holds thread 1, and the line has thread 2.
use Rattle.std.proofs.Common.{refl, ap, arith, ℕ, ◌≡◌, Option, Some, None}
use Rattle.std.specs.Option.{option_map_or}
use Rattle.sched_base.specs.declared.Facts.{Facts}
use Rattle.flat_policy.specs.Runs.Hands.{HandEvent, Own}
use Rattle.worked_examples.specs.Examples.Refused.{log_entering}
use Rattle.worked_examples.specs.Rows.Run.{one_cluster}
use Rattle.worked_examples.proofs.refused.enters_what_it_holds.Goals as goal

abbrev name_of : Option Facts → ℕ
name_of o = option_map_or (λ (t : Facts). t.name) o 0

abbrev name_given : Option HandEvent → ℕ
name_given None = 0
name_given (Some e) = name_of e.thread

not_held : Own one_cluster 0 (log_entering 2) → ⊥
not_held h =
    let step = h.1.1.0 in
    let given : 1 ≡ name_of step.event.thread = ap name_given step.happens in
    let moved : 2 ≡ name_of step.event.thread = ap name_of step.told.thread
    in omega (arith, given, moved)

pub returns : goal.returns
returns c = (refl, not_held)
