use Rattle.std.proofs.Common.{drop, map, sum_by, ◌+◌, ◌<◌, ◌≡◌}
use Rattle.flat_policy.specs.Policy.Setup.{home_among}
use Rattle.flat_policy.specs.Representation.SetupInside.{parts_of_size}
use Rattle.flat_policy.proofs.setup.home_among.Given as goal

abbrev pub invariant-loop-c : goal.invariant-loop-c
invariant-loop-c l = record {
  home : home_among (map parts_of_size l.clusters) l.fn.actor ≡ home_among (map parts_of_size (drop l.c l.clusters)) l.left + l.c;
  some : l.left < sum_by (λ k. k.cpus) (drop l.c l.clusters);
}
