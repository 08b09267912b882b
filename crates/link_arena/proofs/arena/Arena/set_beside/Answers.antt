-- One cell is written, at a slot that has a value.
use Rattle.std.proofs.Common.{ap, is_some, subst, sym, vec_len}
use Rattle.link_arena.specs.Arena.{Relinks}
use Rattle.link_arena.specs.declared.arena.Links.{Links}
use Rattle.link_arena.proofs.SoundLemmas.{IsSound-relinked}
use Rattle.link_arena.proofs.LenLemmas.{live_count-relinks}
use Rattle.link_arena.proofs.MapLemmas.{Relinks-set, cell_links_is, found}
use Rattle.link_arena.proofs.arena.Arena.set_beside.Goals as goal

pub index_mut-cell-requires : goal.index_mut-cell-requires
index_mut-cell-requires g c =
    let here = found c.args.self.now c.self.inside.cells c.self.inside.values.items (vec_len c.self.inside.free) c.args.slot c.self.view_is c.self.invariant.linked c.requires.live in
    ap is_some here.linked

pub invariant_of-self : goal.invariant_of-self
invariant_of-self g c = IsSound-relinked _ _ _ _ _ _ _ c.index_mut-cell.ensures.value c.self.invariant

pub returns-clause-relinks : goal.returns-clause-relinks
returns-clause-relinks g c =
    let here = found c.args.self.now c.self.inside.cells c.self.inside.values.items (vec_len c.self.inside.free) c.args.slot c.self.view_is c.self.invariant.linked c.requires.live in
    let is = cell_links_is c.args.self.now c.self.inside.cells c.self.inside.values.items (vec_len c.self.inside.free) c.args.k c.args.slot c.index_mut-cell.result.now c.self.view_is here c.index_mut-cell.ensures.value c.requires.set in
    rw (is, ← c.self.view_is, c.set_beside.ensures)
    (Relinks-set c.self.inside.cells c.self.inside.values.items _ _ _ _ _ _ here.value c.requires.set c.index_mut-cell.ensures.value here.stored)

pub returns-clause-len : goal.returns-clause-len
returns-clause-len g c = live_count-relinks c.args.self.now _ _ _ _ (returns-clause-relinks g c)
