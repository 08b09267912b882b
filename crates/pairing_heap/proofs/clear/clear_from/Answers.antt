-- Each step leaves less to do.
use Rattle.std.proofs.Common.{ap, arith, length}
use Rattle.pairing_heap.proofs.Clearing.{Clears-all, Forest-heap, Forest-left, Loosens-at, Loosens-less, Loosens-start, Loosens-step, effort_from}
use Rattle.pairing_heap.proofs.clear.clear_from.Goals as goal

pub loop-first-init : goal.loop-first-init
loop-first-init g c = Loosens-start g.row.K g.V.Keyed.key_of g.V.Key.HeapKey.precedes c.args.arena.now c.args.root c.requires

pub loosen_one-first-requires : goal.loosen_one-first-requires
loosen_one-first-requires g c =
    let loosens = Loosens-at g.row.K g.V.Keyed.key_of _ _ _ _ _ _ c.in-Some.is c.loop-first.invariant in
    Forest-left g.row.K g.V.Keyed.key_of _ _ _ _ _ c.requires.set c.requires.heap.once loosens

pub loop-first-preserved : goal.loop-first-preserved
loop-first-preserved g c =
    let loosens = Loosens-at g.row.K g.V.Keyed.key_of _ _ _ _ _ _ c.in-Some.is c.loop-first.invariant in
    Loosens-step g.row.K g.V.Keyed.key_of _ _ _ _ _ _ _ c.requires.heap.once loosens (c.loosen_one-first.ensures (Forest-left g.row.K g.V.Keyed.key_of _ _ _ _ _ c.requires.set c.requires.heap.once loosens))

pub loop-first-smaller : goal.loop-first-smaller
loop-first-smaller g c =
    let loosens = Loosens-at g.row.K g.V.Keyed.key_of _ _ _ _ _ _ c.in-Some.is c.loop-first.invariant in
    let less = Loosens-less g.row.K g.V.Keyed.key_of _ _ _ _ _ _ (Forest-heap g.row.K g.V.Keyed.key_of g.V.Key.HeapKey.precedes c.args.arena.now c.args.root c.requires) loosens (c.loosen_one-first.ensures (Forest-left g.row.K g.V.Keyed.key_of _ _ _ _ _ c.requires.set c.requires.heap.once loosens)) in
    omega (arith, less, ap (effort_from g.row.K g.V.Keyed.key_of c.loop-first.arena (length c.args.arena.now.nodes)) c.in-Some.is)

pub returns : goal.returns
returns g c = Clears-all g.row.K g.V.Keyed.key_of g.V.Key.HeapKey.precedes _ _ c.args.root c.requires (Loosens-at g.row.K g.V.Keyed.key_of _ _ _ _ _ _ c.in_default.is c.loop-first.invariant)
