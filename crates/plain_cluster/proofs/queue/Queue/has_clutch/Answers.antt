use Rattle.flat_policy.specs.Policy.Queue.{in_clutch}
use Rattle.plain_cluster.specs.Entries.{clutch}
use Rattle.plain_cluster.proofs.Counted.{members_by_count}
use Rattle.plain_cluster.proofs.queue.Queue.has_clutch.Goals as goal

pub returns : goal.returns
returns c = members_by_count (in_clutch (clutch c.args.group c.args.bucket)) c.args.self.now.rows.rows c.as_slice.result.now c.count_in_clutch.result c.as_slice.ensures c.count_in_clutch.ensures.count
