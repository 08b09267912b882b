-- The chain becomes one heap, which is melded with the root.
use Rattle.std.proofs.Common.{arith}
use Rattle.pairing_heap.proofs.Passes.{Chained-left}
use Rattle.pairing_heap.proofs.Joining.{Joins-none, Joins-melded, CanMeld-join}
use Rattle.pairing_heap.proofs.meld.join_children.Goals as goal

pub merge_children-requires : goal.merge_children-requires
merge_children-requires g c = Chained-left g.row.K g.V.Keyed.key_of g.V.Key.HeapKey.precedes c.args.arena.now c.args.root c.args.children c.requires

pub meld-requires : goal.meld-requires
meld-requires g c =
    let merges = c.merge_children.ensures.merges (Chained-left g.row.K g.V.Keyed.key_of g.V.Key.HeapKey.precedes c.args.arena.now c.args.root c.args.children c.requires) in
    CanMeld-join g.row.K g.V.Keyed.key_of g.V.Key.HeapKey.precedes c.args.arena.now c.merge_children.new.arena c.args.root c.in-Some.merged c.args.children c.merge_children.result c.requires merges c.in-Some.is

pub returns-in-None-clause-joins : goal.returns-in-None-clause-joins
returns-in-None-clause-joins g c was next prev =
    let merges = c.merge_children.ensures.merges (Chained-left g.row.K g.V.Keyed.key_of g.V.Key.HeapKey.precedes c.args.arena.now c.args.root c.args.children was) in
    Joins-none g.row.K g.V.Keyed.key_of g.V.Key.HeapKey.precedes c.args.arena.now c.merge_children.new.arena c.args.root c.args.children c.merge_children.result was merges c.in-None.is next prev

pub returns-in-Some-clause-joins : goal.returns-in-Some-clause-joins
returns-in-Some-clause-joins g c was next prev =
    let merges = c.merge_children.ensures.merges (Chained-left g.row.K g.V.Keyed.key_of g.V.Key.HeapKey.precedes c.args.arena.now c.args.root c.args.children was) in
    let both = CanMeld-join g.row.K g.V.Keyed.key_of g.V.Key.HeapKey.precedes c.args.arena.now c.merge_children.new.arena c.args.root c.in-Some.merged c.args.children c.merge_children.result was merges c.in-Some.is in
    Joins-melded g.row.K g.V.Keyed.key_of g.V.Key.HeapKey.precedes c.args.arena.now c.merge_children.new.arena c.meld.new.arena c.args.root c.in-Some.merged c.meld.result c.args.children c.merge_children.result was merges c.in-Some.is (c.meld.ensures.melds both) next prev

pub returns-in-None-clause-ticks : goal.returns-in-None-clause-ticks
returns-in-None-clause-ticks g c = omega (arith, c.merge_children.ensures.ticks (Chained-left g.row.K g.V.Keyed.key_of g.V.Key.HeapKey.precedes c.args.arena.now c.args.root c.args.children c.requires))

pub returns-in-None-clause-most : goal.returns-in-None-clause-most
returns-in-None-clause-most g c was = omega (arith, c.merge_children.ensures.ticks (Chained-left g.row.K g.V.Keyed.key_of g.V.Key.HeapKey.precedes c.args.arena.now c.args.root c.args.children was))

pub returns-in-Some-clause-ticks : goal.returns-in-Some-clause-ticks
returns-in-Some-clause-ticks g c = omega (arith, c.meld.ensures.ticks, c.merge_children.ensures.ticks (Chained-left g.row.K g.V.Keyed.key_of g.V.Key.HeapKey.precedes c.args.arena.now c.args.root c.args.children c.requires))

pub returns-in-Some-clause-most : goal.returns-in-Some-clause-most
returns-in-Some-clause-most g c was = omega (arith, c.meld.ensures.ticks, c.merge_children.ensures.ticks (Chained-left g.row.K g.V.Keyed.key_of g.V.Key.HeapKey.precedes c.args.arena.now c.args.root c.args.children was))
