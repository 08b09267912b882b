use Rattle.std.proofs.Common.{◌≡◌, ◌<◌, ◌≤◌, ℕ, drop, length, slice_index}
use Rattle.flat_policy.specs.Runs.Interleaving.{home_from}
use Rattle.stitch.specs.Taking.{lines_of}
use Rattle.stitch.proofs.homes.homes_of.Given as goal

abbrev pub invariant-loop-c : goal.invariant-loop-c
invariant-loop-c l = record {
  within : l.c ≤ length l.clusters;
  marked : (a : ℕ) → a < 16 → slice_index l.homes a ≡ home_from a l.c (drop l.c (lines_of l.clusters));
}

abbrev pub decreases-loop-c : goal.decreases-loop-c
decreases-loop-c l = l.c
