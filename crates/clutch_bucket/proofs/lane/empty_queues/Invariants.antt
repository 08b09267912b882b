use Rattle.std.proofs.Common.{◌≡◌, replicate}
use Rattle.clutch_bucket.specs.Lane.{no_queue}
use Rattle.clutch_bucket.proofs.lane.empty_queues.Given as goal

abbrev pub invariant-loop-group : goal.invariant-loop-group
invariant-loop-group l = l.queues.items ≡ replicate l._group no_queue
