use Rattle.cluster_queue.proofs.Held.{none_too}
use Rattle.cluster_queue.proofs.Windowed.{can_read}
use Rattle.cluster_queue.proofs.queue.Queue.first_of.Goals as goal

pub returns-clause-none : goal.returns-clause-none
returns-clause-none c = none_too _ _ c.first_of.result (λ all. all (can_read c.args.self.now c.requires)) c.first_of.ensures.none
