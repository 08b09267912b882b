use Rattle.std.proofs.Common.{◌≡◌, ◌≤◌, ◌-◌}
use Rattle.flat_policy.specs.Policy.Usage.{decayed_by}
use Rattle.timeshare_decay.proofs.decay.Given as goal

abbrev pub invariant-loop-tick : goal.invariant-loop-tick
invariant-loop-tick l = record {
  rest : decayed_by (l._tick-end - l._tick) l.left ≡ decayed_by l._tick-end l.usage;
  bound : l.left ≤ l.usage;
}
