-- The root of the heap is its least.
use Rattle.std.proofs.Common.{ap, ◌∙◌}
use Rattle.thread_queue.proofs.First.{first_is}
use Rattle.thread_queue.proofs.queue.ThreadQueue.first.Goals as goal

pub returns-clause-first : goal.returns-clause-first
returns-clause-first c = λ arena stands. first_is c.heap_laws.ensures.live c.heap_laws.ensures.first arena c.args.self.now c.peek.result (c.peek.ensures ∙ ap (λ q. q.root) c.self.view_is) stands
