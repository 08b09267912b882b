-- The heap has one pair more.
use Rattle.std.proofs.Common.{refl, sym, subst}
use Rattle.thread_queue.specs.Queue.{Queue, StandsIn}
use Rattle.thread_queue.proofs.Members.{pushes}
use Rattle.thread_queue.proofs.queue.ThreadQueue.push.Goals as goal

pub returns-clause-pushes : goal.returns-clause-pushes
returns-clause-pushes g c =
    let stands = subst (λ (q : Queue). StandsIn c.args.arena.now q) (sym c.self.view_is) c.requires.stands in
    rw (← c.self.view_is) (pushes c.heap_laws.ensures.adds_slot c.heap_laws.ensures.adds_pair c.args.arena.now c.push.new.arena _ _ c.args.slot stands c.requires.live c.push.ensures.adds refl)
