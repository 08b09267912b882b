use Rattle.std.proofs.Common.{◌≡◌, take}
use Rattle.flat_policy.specs.declared.journal.Line.{Line}
use Rattle.flat_policy.specs.Runs.Histories.{actor_of}
use Rattle.flat_policy.specs.Runs.Interleaving.{EachLine}
use Rattle.stitch.proofs.tests.is_of_actor.Given as goal

abbrev pub invariant-loop-i : goal.invariant-loop-i
invariant-loop-i l = EachLine (λ (m : Line). actor_of m ≡ l.a) (take l.i l.log.lines)
