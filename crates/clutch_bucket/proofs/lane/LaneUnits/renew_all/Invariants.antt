use Rattle.std.proofs.Common.{◌≡◌, ◌≤◌}
use Rattle.clutch_bucket.proofs.RenewedKeys.{RenewedTo}
use Rattle.clutch_bucket.proofs.lane.LaneUnits.renew_all.Given as goal

abbrev pub invariant-loop-group : goal.invariant-loop-group
invariant-loop-group g l = record {
  lane : l.self ≡ record l.initial.self { ranks = l.self.ranks };
  renewed : RenewedTo l.arena l.initial.self l.self.ranks l.group l.initial.turns l.turns;
  ticks : l.initial.steps ≤ l.steps;
}
