use Rattle.cluster_queue.proofs.Chosen.{foreign_first}
use Rattle.cluster_queue.proofs.heaps.Heaps.first_foreign.Goals as goal

pub returns-clause-first : goal.returns-clause-first
returns-clause-first c = λ can.
    foreign_first c.choice_laws.ensures.offers c.args.arena.now c.args.self.now can.count can.s can.formed can.follows c.args.to c.best.result c.best.ensures.best c.best.ensures.none
