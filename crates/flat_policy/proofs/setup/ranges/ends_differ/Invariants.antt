use Rattle.std.proofs.Common.{drop, ◌≡◌}
use Rattle.flat_policy.specs.Policy.Ranges.{ends_differ}
use Rattle.flat_policy.proofs.setup.ranges.ends_differ.Given as goal

abbrev pub invariant-loop-k : goal.invariant-loop-k
invariant-loop-k l = ends_differ (drop l.k l.edges) ≡ ends_differ l.edges
