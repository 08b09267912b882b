-- The children of the root become the heap.
use Rattle.std.proofs.Common.{ap, arith}
use Rattle.pairing_heap.proofs.Taking.{Takes-root, Takes-paired, Chained-children, children-most, live_root}
use Rattle.pairing_heap.proofs.meld.take_root.Goals as goal

pub links-children-requires-clause-live : goal.links-children-requires-clause-live
links-children-requires-clause-live g c = live_root g.row.K g.V.Keyed.key_of g.V.Key.HeapKey.precedes c.args.arena.now c.args.root c.requires

pub set_links-requires-clause-live : goal.set_links-requires-clause-live
set_links-requires-clause-live g c = live_root g.row.K g.V.Keyed.key_of g.V.Key.HeapKey.precedes c.args.arena.now c.args.root c.requires

pub merge_children-requires : goal.merge_children-requires
merge_children-requires g c =
    rw (ap (λ l. l.child) c.links-children.ensures)
    (Chained-children g.row.K g.V.Keyed.key_of g.V.Key.HeapKey.precedes c.args.arena.now c.set_links.new.self c.args.root c.requires c.set_links.ensures.relinks c.set_links.ensures.spare).0

pub returns-clause-takes : goal.returns-clause-takes
returns-clause-takes g c =
    let merges = rw (ap (λ l. l.child) c.links-children.ensures) at c.merge_children.ensures.merges in
    Takes-root g.row.K g.V.Keyed.key_of g.V.Key.HeapKey.precedes c.args.arena.now c.set_links.new.self c.merge_children.new.arena c.args.root c.merge_children.result c.requires c.set_links.ensures.relinks c.set_links.ensures.spare
    (merges (Chained-children g.row.K g.V.Keyed.key_of g.V.Key.HeapKey.precedes c.args.arena.now c.set_links.new.self c.args.root c.requires c.set_links.ensures.relinks c.set_links.ensures.spare).0)

pub returns-clause-pairs : goal.returns-clause-pairs
returns-clause-pairs g c =
    let merges = rw (ap (λ l. l.child) c.links-children.ensures) at c.merge_children.ensures.merges in
    Takes-paired g.row.K g.V.Keyed.key_of g.V.Key.HeapKey.precedes c.args.arena.now c.set_links.new.self c.merge_children.new.arena c.args.root c.merge_children.result c.requires c.set_links.ensures.relinks c.set_links.ensures.spare
    (merges (Chained-children g.row.K g.V.Keyed.key_of g.V.Key.HeapKey.precedes c.args.arena.now c.set_links.new.self c.args.root c.requires c.set_links.ensures.relinks c.set_links.ensures.spare).0)

pub returns-clause-ticks : goal.returns-clause-ticks
returns-clause-ticks g c =
    let ticks = rw (ap (λ l. l.child) c.links-children.ensures) at c.merge_children.ensures.ticks in
    omega (arith, ticks (Chained-children g.row.K g.V.Keyed.key_of g.V.Key.HeapKey.precedes c.args.arena.now c.set_links.new.self c.args.root c.requires c.set_links.ensures.relinks c.set_links.ensures.spare).0)

pub returns-clause-most : goal.returns-clause-most
returns-clause-most g c =
    let ticks = rw (ap (λ l. l.child) c.links-children.ensures) at c.merge_children.ensures.ticks in
    omega (arith, ticks (Chained-children g.row.K g.V.Keyed.key_of g.V.Key.HeapKey.precedes c.args.arena.now c.set_links.new.self c.args.root c.requires c.set_links.ensures.relinks c.set_links.ensures.spare).0, children-most g.row.K g.V.Keyed.key_of g.V.Key.HeapKey.precedes c.args.arena.now c.set_links.new.self c.args.root c.requires c.set_links.ensures.relinks c.set_links.ensures.spare)
