-- The first slot holds an entry.
use Rattle.cluster_queue.proofs.QueueSlots.{some_first}
use Rattle.cluster_queue.proofs.queue.Queue.some_slot.Goals as goal

pub returns : goal.returns
returns c = some_first c.args.self.now c.first_slot.result c.requires.nested.stored.arrivals c.first_slot.ensures.live c.first_slot.ensures.none
