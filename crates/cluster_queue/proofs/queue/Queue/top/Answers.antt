use Rattle.cluster_queue.proofs.Windowed.{can_read}
use Rattle.cluster_queue.proofs.queue.Queue.top.Goals as goal

pub returns : goal.returns
returns c = c.top.ensures (can_read c.args.self.now c.requires)
