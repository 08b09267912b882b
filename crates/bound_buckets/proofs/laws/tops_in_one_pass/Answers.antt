use Rattle.bound_buckets.proofs.Units.{in_one_pass}
use Rattle.bound_buckets.proofs.laws.tops_in_one_pass.Goals as goal

pub returns : goal.returns
returns c = in_one_pass c.lane_priority_by_entries.ensures
