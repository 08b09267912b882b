-- All slots are added at the end.
use Rattle.std.proofs.Common.{Option, subst, ℕ}
use Rattle.cluster_queue.specs.Filling.{FilledBelow, end_of}
use Rattle.cluster_queue.proofs.Filled.{heaps_filled}
use Rattle.cluster_queue.proofs.heaps.Heaps.fill_foreign.Goals as goal

pub returns-clause-follows : goal.returns-clause-follows
returns-clause-follows g c =
    let laws = c.fill_laws.ensures in
    let i = c.loop-next.invariant in
    heaps_filled laws.unbound laws.queues laws.stay c.args.arena.now c.loop-next.arena c.args.self.now c.loop-next.self i.same i.kept
    (subst (λ (next : Option ℕ). FilledBelow c.loop-next.arena c.loop-next.self (end_of next)) c.in_default.is i.filled)
