-- A live slot has a value in the list.
use Rattle.std.proofs.Common.{◌∙◌, sym, arith, vec_len}
use Rattle.link_arena.proofs.MapLemmas.{found, read, value_is}
use Rattle.link_arena.proofs.arena.Arena.get.Goals as goal

pub index-requires : goal.index-requires
index-requires g c =
    let here = found c.args.self.now c.self.inside.cells c.self.inside.values.items (vec_len c.self.inside.free) c.args.slot c.self.view_is c.self.invariant.linked c.requires in
    omega (arith, here.within, c.self.inside.values.ok.0)

pub unreachable-requires : goal.unreachable-requires
unreachable-requires g c =
    let here = found c.args.self.now c.self.inside.cells c.self.inside.values.items (vec_len c.self.inside.free) c.args.slot c.self.view_is c.self.invariant.linked c.requires in
    let e = sym c.in-None.is ∙ read _ _ _ here _ c.index.ensures in
    cc

pub returns : goal.returns
returns g c =
    let here = found c.args.self.now c.self.inside.cells c.self.inside.values.items (vec_len c.self.inside.free) c.args.slot c.self.view_is c.self.invariant.linked c.requires in
    value_is c.args.self.now c.self.inside.cells c.self.inside.values.items (vec_len c.self.inside.free) c.args.slot c.self.view_is c.self.invariant.linked
    ∙ here.stored
    ∙ sym (read _ _ _ here _ c.index.ensures)
    ∙ c.in-Some.is
