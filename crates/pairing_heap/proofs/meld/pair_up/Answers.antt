-- Each step takes one or two roots from what is left, and puts one to what is done.
use Rattle.std.proofs.Common.{ap, arith, length}
use Rattle.pairing_heap.proofs.Pairing.{Halves-start, Halves-step, Halves-less, Halves-at, Rechains-done, Rechains-spent, Chained-halves, live_top, walk_size}
use Rattle.pairing_heap.proofs.meld.pair_up.Goals as goal

pub loop-rest-init : goal.loop-rest-init
loop-rest-init g c = λ was. Halves-start g.row.K g.V.Keyed.key_of g.V.Key.HeapKey.precedes c.args.arena.now c.args.first was c.args.steps.now

pub first_pair-top-requires : goal.first_pair-top-requires
first_pair-top-requires g c =
    let halves = Halves-at g.row.K g.V.Keyed.key_of g.V.Key.HeapKey.precedes _ _ _ _ _ _ _ _ _ c.in-Some.is (c.loop-rest.invariant c.requires) in
    Chained-halves g.row.K g.V.Keyed.key_of g.V.Key.HeapKey.precedes _ _ _ _ _ c.requires _ _ halves

pub set_next-requires : goal.set_next-requires
set_next-requires g c =
    let halves = Halves-at g.row.K g.V.Keyed.key_of g.V.Key.HeapKey.precedes _ _ _ _ _ _ _ _ _ c.in-Some.is (c.loop-rest.invariant c.requires) in
    let pairs = c.first_pair-top.ensures.pairs (Chained-halves g.row.K g.V.Keyed.key_of g.V.Key.HeapKey.precedes _ _ _ _ _ c.requires _ _ halves) in
    record { set = c.requires.set; live = live_top g.row.K g.V.Keyed.key_of g.V.Key.HeapKey.precedes _ _ _ pairs.now }

pub loop-rest-preserved : goal.loop-rest-preserved
loop-rest-preserved g c = λ was.
    let halves = Halves-at g.row.K g.V.Keyed.key_of g.V.Key.HeapKey.precedes _ _ _ _ _ _ _ _ _ c.in-Some.is (c.loop-rest.invariant was) in
    let chained = Chained-halves g.row.K g.V.Keyed.key_of g.V.Key.HeapKey.precedes _ _ _ _ _ was _ _ halves in
    Halves-step g.row.K g.V.Keyed.key_of g.V.Key.HeapKey.precedes _ _ _ _ _ _ _ _ _ was _ _ _ halves (c.first_pair-top.ensures.ticks chained) (c.first_pair-top.ensures.pairs chained) c.set_next.ensures.relinks c.set_next.ensures.spare

pub loop-rest-smaller : goal.loop-rest-smaller
loop-rest-smaller g c =
    let halves = Halves-at g.row.K g.V.Keyed.key_of g.V.Key.HeapKey.precedes _ _ _ _ _ _ _ _ _ c.in-Some.is (c.loop-rest.invariant c.requires) in
    let pairs = c.first_pair-top.ensures.pairs (Chained-halves g.row.K g.V.Keyed.key_of g.V.Key.HeapKey.precedes _ _ _ _ _ c.requires _ _ halves) in
    let less = Halves-less g.row.K g.V.Keyed.key_of g.V.Key.HeapKey.precedes _ _ _ _ _ _ _ _ _ c.requires _ _ halves pairs c.set_next.ensures.relinks c.set_next.ensures.spare in
    omega (arith, less, ap (walk_size g.row.K g.V.Keyed.key_of g.V.Key.HeapKey.precedes c.loop-rest.arena (length c.args.arena.now.nodes)) c.in-Some.is)

pub returns-clause-rechains : goal.returns-clause-rechains
returns-clause-rechains g c was = Rechains-done g.row.K g.V.Keyed.key_of g.V.Key.HeapKey.precedes _ _ _ _ was _ _ (Halves-at g.row.K g.V.Keyed.key_of g.V.Key.HeapKey.precedes _ _ _ _ _ _ _ _ _ c.in_default.is (c.loop-rest.invariant was))

pub returns-clause-ticks : goal.returns-clause-ticks
returns-clause-ticks g c was = Rechains-spent g.row.K g.V.Keyed.key_of g.V.Key.HeapKey.precedes _ _ _ _ was _ _ (Halves-at g.row.K g.V.Keyed.key_of g.V.Key.HeapKey.precedes _ _ _ _ _ _ _ _ _ c.in_default.is (c.loop-rest.invariant was))
