use Rattle.bound_buckets.proofs.Units.{of_units}
use Rattle.bound_buckets.proofs.laws.tops_are_of_units.Goals as goal

pub returns : goal.returns
returns c = of_units c.lane_priorities_are_of_units.ensures
