use Rattle.std.proofs.Common.{take, ◌≡◌}
use Rattle.flat_policy.proofs.setup.lists.group_rows.Given as goal

abbrev pub invariant-loop-row : goal.invariant-loop-row
invariant-loop-row l = l.groups.items ≡ take l.row-index l.rows
