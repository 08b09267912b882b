-- The passes one after the other.
use Rattle.std.proofs.Common.{arith}
use Rattle.pairing_heap.proofs.Pairing.{Merges-both, Chained-rechains}
use Rattle.pairing_heap.proofs.meld.merge_children.Goals as goal

pub fold_up-requires : goal.fold_up-requires
fold_up-requires g c = Chained-rechains g.row.K g.V.Keyed.key_of g.V.Key.HeapKey.precedes _ _ _ _ c.requires (c.pair_up-paired.ensures.rechains c.requires)

pub returns-clause-merges : goal.returns-clause-merges
returns-clause-merges g c was =
    let rechains = c.pair_up-paired.ensures.rechains was in
    Merges-both g.row.K g.V.Keyed.key_of g.V.Key.HeapKey.precedes _ _ _ _ _ _ was rechains (c.fold_up.ensures.merges (Chained-rechains g.row.K g.V.Keyed.key_of g.V.Key.HeapKey.precedes _ _ _ _ was rechains))

pub returns-clause-ticks : goal.returns-clause-ticks
returns-clause-ticks g c was =
    let rechains = c.pair_up-paired.ensures.rechains was in
    omega (arith, rechains.half, c.pair_up-paired.ensures.ticks was, c.fold_up.ensures.ticks (Chained-rechains g.row.K g.V.Keyed.key_of g.V.Key.HeapKey.precedes _ _ _ _ was rechains))
