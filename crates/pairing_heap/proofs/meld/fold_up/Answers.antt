-- Each step takes one root from what is left.
use Rattle.std.proofs.Common.{ap, arith, length}
use Rattle.pairing_heap.proofs.Pairing.{Folds-begin, Folds-step, Folds-less, Folds-at, Merges-done, Merges-spent, Merges-nowhere, live_begin, live_top, siblings-nowhere, walk_size}
use Rattle.pairing_heap.proofs.meld.fold_up.Goals as goal

pub links-rest-requires-clause-live : goal.links-rest-requires-clause-live
links-rest-requires-clause-live g c = live_begin g.row.K g.V.Keyed.key_of g.V.Key.HeapKey.precedes c.args.arena.now c.args.first c.in_ok-top.top c.in_ok-top.was c.requires

pub loop-rest-init : goal.loop-rest-init
loop-rest-init g c = λ was. Folds-begin g.row.K g.V.Keyed.key_of g.V.Key.HeapKey.precedes c.args.arena.now c.args.first c.in_ok-top.top c.links-rest.result.next c.in_ok-top.was (ap (λ l. l.next) c.links-rest.ensures) was c.args.steps.now

pub meld_next-requires : goal.meld_next-requires
meld_next-requires g c = (Folds-at g.row.K g.V.Keyed.key_of g.V.Key.HeapKey.precedes _ _ _ _ _ _ _ _ _ c.in-Some.is (c.loop-rest.invariant c.requires)).now

pub set_next-requires : goal.set_next-requires
set_next-requires g c = record { set = c.requires.set; live = live_top g.row.K g.V.Keyed.key_of g.V.Key.HeapKey.precedes _ _ _ (c.loop-rest.invariant c.requires).now }

pub loop-rest-preserved : goal.loop-rest-preserved
loop-rest-preserved g c = λ was.
    let folds = Folds-at g.row.K g.V.Keyed.key_of g.V.Key.HeapKey.precedes _ _ _ _ _ _ _ _ _ c.in-Some.is (c.loop-rest.invariant was) in
    Folds-step g.row.K g.V.Keyed.key_of g.V.Key.HeapKey.precedes _ _ _ _ _ _ _ _ was _ _ _ folds c.meld_next.ensures.ticks (c.meld_next.ensures.splits folds.now)

pub loop-rest-smaller : goal.loop-rest-smaller
loop-rest-smaller g c =
    let folds = Folds-at g.row.K g.V.Keyed.key_of g.V.Key.HeapKey.precedes _ _ _ _ _ _ _ _ _ c.in-Some.is (c.loop-rest.invariant c.requires) in
    let less = Folds-less g.row.K g.V.Keyed.key_of g.V.Key.HeapKey.precedes _ _ _ _ _ _ _ _ c.requires _ _ folds (c.meld_next.ensures.splits folds.now) in
    omega (arith, less, ap (walk_size g.row.K g.V.Keyed.key_of g.V.Key.HeapKey.precedes c.loop-rest.arena (length c.args.arena.now.nodes)) c.in-Some.is)

pub returns-clause-merges : goal.returns-clause-merges
returns-clause-merges g c was =
    let folds = Folds-at g.row.K g.V.Keyed.key_of g.V.Key.HeapKey.precedes _ _ _ _ _ _ _ _ _ c.in_default.is (c.loop-rest.invariant was) in
    Merges-done g.row.K g.V.Keyed.key_of g.V.Key.HeapKey.precedes _ _ _ _ _ was _ _ folds c.set_next.ensures.relinks c.set_next.ensures.spare

pub returns-clause-ticks : goal.returns-clause-ticks
returns-clause-ticks g c was = Merges-spent g.row.K g.V.Keyed.key_of g.V.Key.HeapKey.precedes _ _ _ _ was _ _ (Folds-at g.row.K g.V.Keyed.key_of g.V.Key.HeapKey.precedes _ _ _ _ _ _ _ _ _ c.in_default.is (c.loop-rest.invariant was))

pub returns-in_err-top-clause-merges : goal.returns-in_err-top-clause-merges
returns-in_err-top-clause-merges g c was = rw c.from_residual.ensures (Merges-nowhere g.row.K g.V.Keyed.key_of g.V.Key.HeapKey.precedes c.args.arena.now c.args.first c.in_err-top.was was)

pub returns-in_err-top-clause-ticks : goal.returns-in_err-top-clause-ticks
returns-in_err-top-clause-ticks g c was = omega (arith, siblings-nowhere g.row.K g.V.Keyed.key_of g.V.Key.HeapKey.precedes c.args.arena.now c.args.first c.in_err-top.was was)
