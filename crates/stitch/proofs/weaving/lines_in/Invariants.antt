use Rattle.std.proofs.Common.{◌≡◌, ◌*◌, ◌^◌, ◌≤◌, length, sum_by, take}
use Rattle.flat_policy.specs.Runs.Journals.{JournalParts}
use Rattle.stitch.proofs.weaving.lines_in.Given as goal

abbrev pub invariant-loop-log : goal.invariant-loop-log
invariant-loop-log l = record {
  sum : l.lines ≡ sum_by (λ (log : JournalParts). length log.lines) (take l.log-index l.logs);
  most : l.lines ≤ 2 ^ 40 * l.log-index;
}
