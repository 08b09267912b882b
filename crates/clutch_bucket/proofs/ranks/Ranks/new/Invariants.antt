use Rattle.std.proofs.Common.{None, replicate, ◌≡◌}
use Rattle.clutch_bucket.proofs.ranks.Ranks.new.Given as goal

abbrev pub invariant-loop-group : goal.invariant-loop-group
invariant-loop-group l = l.ranks ≡ replicate l.group None
