use Rattle.std.proofs.Common.{ℕ, not, ◌==◌, ap, ◌∙◌}
use Rattle.flat_policy.specs.Policy.Queue.{in_lane}
use Rattle.cluster_queue.proofs.Passing.{any_passes}
use Rattle.cluster_queue.proofs.heaps.Heaps.has_lane.Goals as goal

pub returns : goal.returns
returns c = λ arena count s f. ap (λ (n : ℕ). not (n == 0)) (c.lane_len.ensures arena count s f) ∙ any_passes (in_lane c.args.lane) s.entries
