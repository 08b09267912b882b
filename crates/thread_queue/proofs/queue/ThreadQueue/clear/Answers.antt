-- The heap is cleared.
use Rattle.thread_queue.proofs.Members.{queues_stay}
use Rattle.thread_queue.proofs.queue.ThreadQueue.clear.Goals as goal

pub returns-clause-clears : goal.returns-clause-clears
returns-clause-clears c =
    rw (← c.self.view_is) record { clears = c.clear.ensures.clears; queues = queues_stay c.args.arena.now c.clear.new.arena _ c.clear.ensures.clears.others }
