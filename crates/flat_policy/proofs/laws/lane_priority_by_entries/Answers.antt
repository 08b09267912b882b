use Rattle.flat_policy.proofs.UnitPriorities.{by_entries}
use Rattle.flat_policy.proofs.laws.lane_priority_by_entries.Goals as goal

pub returns : goal.returns
returns c = by_entries
