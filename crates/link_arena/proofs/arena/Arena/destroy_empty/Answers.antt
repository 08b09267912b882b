-- No slot has a value, so the list has none.
use Rattle.std.proofs.Common.{None, sym, ◌∙◌, length, vec_len}
use Rattle.link_arena.proofs.NodeLemmas.{last_of}
use Rattle.link_arena.proofs.MapLemmas.{value_is}
use Rattle.link_arena.proofs.arena.Arena.destroy_empty.Goals as goal

pub loop-value-init : goal.loop-value-init
loop-value-init g c = λ k.
    sym (value_is c.args.self c.self.inside.cells c.self.inside.values.items (vec_len c.self.inside.free) k c.self.view_is c.self.invariant.linked) ∙ c.requires k

pub unreachable-requires : goal.unreachable-requires
unreachable-requires g c =
    let none = sym (last_of _ c.pop.new.self.items c.in-Some.value None c.in-Some.ensures.items) ∙ c.loop-value.invariant (length c.pop.new.self.items) in
    let e = sym none ∙ c.in-Some-value.is in
    cc
