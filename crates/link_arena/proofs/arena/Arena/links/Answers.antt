-- A live slot has a cell.
use Rattle.std.proofs.Common.{◌≡◌, ap, sym, ◌∙◌, arith, is_some, vec_len}
use Rattle.link_arena.specs.Arena.{links_of}
use Rattle.link_arena.proofs.MapLemmas.{found, links_is}
use Rattle.link_arena.proofs.arena.Arena.links.Goals as goal

pub index-cell-requires : goal.index-cell-requires
index-cell-requires g c =
    let here = found c.args.self.now c.self.inside.cells c.self.inside.values.items (vec_len c.self.inside.free) c.args.slot c.self.view_is c.self.invariant.linked c.requires.live in
    ap is_some here.linked

pub returns-then-k-eq0 : goal.returns-then-k-eq0
returns-then-k-eq0 g c =
    let here = found c.args.self.now c.self.inside.cells c.self.inside.values.items (vec_len c.self.inside.free) c.args.slot c.self.view_is c.self.invariant.linked c.requires.live in
    let is = links_is _ _ _ _ c.args.k _ _ c.self.view_is here c.index-cell.ensures in
    sym (is ∙ ap (λ k. links_of k record { value = here.value; first = c.index-cell.result.now.first; second = c.index-cell.result.now.second }) c.if-k-eq0.true)

pub returns-else-k-eq0 : goal.returns-else-k-eq0
returns-else-k-eq0 g c =
    let here = found c.args.self.now c.self.inside.cells c.self.inside.values.items (vec_len c.self.inside.free) c.args.slot c.self.view_is c.self.invariant.linked c.requires.live in
    let is = links_is _ _ _ _ c.args.k _ _ c.self.view_is here c.index-cell.ensures in
    let one : c.args.k ≡ 1 = omega (arith, c.requires.set, c.if-k-eq0.false) in
    sym (is ∙ ap (λ k. links_of k record { value = here.value; first = c.index-cell.result.now.first; second = c.index-cell.result.now.second }) one)
