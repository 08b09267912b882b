-- The slot is taken out, gets its value, and is pushed again.
use Rattle.std.proofs.Common.{ap, is_some, ◌∙◌, lit<}
use Rattle.pairing_heap.specs.Melding.{taken_out}
use Rattle.pairing_heap.specs.Heap.{times_of, tree_at}
use Rattle.pairing_heap.proofs.Rekeying.{Rekeys, Rekeys-tree, Lacks-taken, Stands-revalued, live_held}
use Rattle.pairing_heap.proofs.heap.Heap.rekey_uncounted.Goals as goal

pub replace-old-requires : goal.replace-old-requires
replace-old-requires g c =
    ap is_some (c.remove_uncounted.ensures.takes.kept.values c.args.slot) ∙ live_held g.row.K g.V.Keyed.key_of g.V.Key.HeapKey.precedes c.args.arena.now c.args.self.now c.args.slot c.requires.stands c.requires.held

pub push_uncounted-requires : goal.push_uncounted-requires
push_uncounted-requires g c =
    let live = live_held g.row.K g.V.Keyed.key_of g.V.Key.HeapKey.precedes c.args.arena.now c.args.self.now c.args.slot c.requires.stands c.requires.held in
    let lacks = Lacks-taken g.row.K g.V.Keyed.key_of g.V.Key.HeapKey.precedes _ _ _ _ c.args.slot live c.requires.stands c.remove_uncounted.ensures.takes in
    let still = Stands-revalued g.row.K g.V.Keyed.key_of g.V.Key.HeapKey.precedes _ _ _ c.args.slot c.args.v c.replace-old.ensures.revalues c.remove_uncounted.ensures.takes.stands lacks in
    (lit< tt, (still.0, (ap is_some c.replace-old.ensures.revalues.here, ap (λ xs. times_of xs c.args.slot) still.1 ∙ lacks)))

pub returns-clause-rekeys : goal.returns-clause-rekeys
returns-clause-rekeys g c =
    let live = live_held g.row.K g.V.Keyed.key_of g.V.Key.HeapKey.precedes c.args.arena.now c.args.self.now c.args.slot c.requires.stands c.requires.held in
    Rekeys g.row.K g.V.Keyed.key_of g.V.Key.HeapKey.precedes _ _ _ _ _ _ _ c.args.slot c.args.v live c.requires.stands c.remove_uncounted.ensures.takes c.replace-old.ensures.revalues c.replace-old.ensures.spare c.push_uncounted.ensures.adds

pub returns-clause-melds : goal.returns-clause-melds
returns-clause-melds g c =
    let live = live_held g.row.K g.V.Keyed.key_of g.V.Key.HeapKey.precedes c.args.arena.now c.args.self.now c.args.slot c.requires.stands c.requires.held in
    let lacks = Lacks-taken g.row.K g.V.Keyed.key_of g.V.Key.HeapKey.precedes _ _ _ _ c.args.slot live c.requires.stands c.remove_uncounted.ensures.takes in
    Rekeys-tree g.row.K g.V.Keyed.key_of g.V.Key.HeapKey.precedes c.remove_uncounted.new.arena c.replace-old.new.self c.push_uncounted.new.arena c.remove_uncounted.new.self c.push_uncounted.new.self c.args.slot c.args.v (taken_out g.V.Key.HeapKey.precedes c.args.slot (tree_at g.row.K g.V.Keyed.key_of c.args.arena.now c.args.self.now)) c.replace-old.ensures.revalues c.remove_uncounted.ensures.takes.stands lacks c.remove_uncounted.ensures.pairs c.push_uncounted.ensures.melds
