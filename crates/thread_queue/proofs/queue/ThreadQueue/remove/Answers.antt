-- The heap has one pair less.
use Rattle.std.proofs.Common.{refl, sym, subst}
use Rattle.thread_queue.specs.Queue.{Queue, StandsIn}
use Rattle.thread_queue.proofs.Members.{removes}
use Rattle.thread_queue.proofs.queue.ThreadQueue.remove.Goals as goal

pub returns-clause-removes : goal.returns-clause-removes
returns-clause-removes g c =
    let stands = subst (λ (q : Queue). StandsIn c.args.arena.now q) (sym c.self.view_is) c.requires.stands in
    rw (← c.self.view_is) (removes c.heap_laws.ensures.takes_slot c.heap_laws.ensures.takes_pair c.args.arena.now c.remove.new.arena _ _ c.args.slot stands c.remove.ensures.takes refl)
