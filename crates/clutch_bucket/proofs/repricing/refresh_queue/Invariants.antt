use Rattle.std.specs.Prelude.{drop, ◌≤◌}
use Rattle.clutch_bucket.proofs.PricedAnew.{RepricedBut}
use Rattle.clutch_bucket.proofs.repricing.refresh_queue.Given as goal

abbrev pub invariant-loop-slot : goal.invariant-loop-slot
invariant-loop-slot g l = record {
  priced : RepricedBut l.fn.arena l.arena l.fn.queue l.queue l.now (drop l.slot-index l.slot-items) l.changed;
  ticks : l.fn.steps ≤ l.steps;
}
