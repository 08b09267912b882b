use Rattle.std.proofs.Common.{◌≡◌, ◌<◌, ℕ, []}
use Rattle.std.specs.Prelude.{slice_index_or}
use Rattle.flat_policy.specs.declared.journal.Line.{Line}
use Rattle.flat_policy.specs.Runs.Histories.{actor_of}
use Rattle.flat_policy.specs.Runs.Interleaving.{EachLine}
use Rattle.stitch.specs.Taking.{lines_of}
use Rattle.stitch.proofs.tests.are_of_actors.Given as goal

abbrev pub invariant-loop-a : goal.invariant-loop-a
invariant-loop-a l = (b : ℕ) → b < l.a → EachLine (λ (m : Line). actor_of m ≡ b) (slice_index_or (lines_of l.logs) b [])
