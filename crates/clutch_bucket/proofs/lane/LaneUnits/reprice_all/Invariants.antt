use Rattle.std.specs.Prelude.{◌*◌, ◌≡◌, ◌≤◌}
use Rattle.clutch_bucket.specs.Repricing.{PricedUpTo, changed_upto}
use Rattle.clutch_bucket.proofs.lane.LaneUnits.reprice_all.Given as goal

abbrev pub invariant-loop-group : goal.invariant-loop-group
invariant-loop-group g l = record {
  priced : PricedUpTo l.fn.arena l.arena l.fn.self l.self l.group l.now;
  changed : l.changed ≡ changed_upto l.fn.arena l.fn.self l.now l.group;
  most : l.changed ≤ l.group * 4096;
  ticks : l.fn.steps ≤ l.steps;
}
