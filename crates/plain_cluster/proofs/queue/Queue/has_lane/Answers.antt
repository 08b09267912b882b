use Rattle.flat_policy.specs.Policy.Queue.{in_lane}
use Rattle.plain_cluster.proofs.Counted.{passes_by_count}
use Rattle.plain_cluster.proofs.queue.Queue.has_lane.Goals as goal

pub returns : goal.returns
returns c = passes_by_count (in_lane c.args.lane) c.args.self.now.rows.rows c.as_slice.result.now c.count_in_lane.result c.as_slice.ensures c.count_in_lane.ensures.count
