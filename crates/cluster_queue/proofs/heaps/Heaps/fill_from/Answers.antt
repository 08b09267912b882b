-- Slots without items are passed over, and the first with one is added.
use Rattle.std.proofs.Common.{Option, arith, subst, sym, ℕ}
use Rattle.cluster_queue.specs.Filling.{FilledBelow, end_of}
use Rattle.cluster_queue.proofs.Filling.{filled_on}
use Rattle.cluster_queue.proofs.heaps.Heaps.fill_from.Goals as goal

pub returns-in_err-slot-clause-filled : goal.returns-in_err-slot-clause-filled
returns-in_err-slot-clause-filled g c =
    subst (λ (next : Option ℕ). FilledBelow c.args.arena.now c.args.self.now (end_of next)) (sym c.from_residual.ensures)
    (filled_on c.args.arena.now c.args.self.now c.args.from 4294967296 (omega arith) (λ other ge lt. c.in_err-slot.ensures.none other ge) c.requires)

pub add_foreign-requires-clause-filled : goal.add_foreign-requires-clause-filled
add_foreign-requires-clause-filled g c =
    filled_on c.args.arena.now c.args.self.now c.args.from c.in_ok-slot.slot c.in_ok-slot.ensures.from c.in_ok-slot.ensures.least c.requires
