-- One value is written to a slot that has a value.
use Rattle.std.proofs.Common.{ap, sym, ◌∙◌, arith, is_some, vec_len}
use Rattle.link_arena.specs.Arena.{with_value}
use Rattle.link_arena.proofs.SoundLemmas.{IsSound-revalued}
use Rattle.link_arena.proofs.LenLemmas.{live_count-revalues}
use Rattle.link_arena.proofs.MapLemmas.{Revalues-with_value, found, read, seen-with_value, value_is}
use Rattle.link_arena.proofs.arena.Arena.replace.Goals as goal

pub index_mut-requires : goal.index_mut-requires
index_mut-requires g c =
    let here = found c.args.self.now c.self.inside.cells c.self.inside.values.items (vec_len c.self.inside.free) c.args.slot c.self.view_is c.self.invariant.linked c.requires in
    omega (arith, here.within, c.self.inside.values.ok.0)

pub unwrap-requires : goal.unwrap-requires
unwrap-requires g c =
    let here = found c.args.self.now c.self.inside.cells c.self.inside.values.items (vec_len c.self.inside.free) c.args.slot c.self.view_is c.self.invariant.linked c.requires in
    ap is_some (c.replace.ensures.value ∙ read _ _ _ here _ c.index_mut.ensures.value)

pub invariant_of-self : goal.invariant_of-self
invariant_of-self g c =
    let here = found c.args.self.now c.self.inside.cells c.self.inside.values.items (vec_len c.self.inside.free) c.args.slot c.self.view_is c.self.invariant.linked c.requires in
    rw c.replace.ensures.after (IsSound-revalued _ _ _ _ _ here.value c.args.v here.stored c.self.invariant)

pub returns-clause-value : goal.returns-clause-value
returns-clause-value g c =
    let here = found c.args.self.now c.self.inside.cells c.self.inside.values.items (vec_len c.self.inside.free) c.args.slot c.self.view_is c.self.invariant.linked c.requires in
    value_is c.args.self.now c.self.inside.cells c.self.inside.values.items (vec_len c.self.inside.free) c.args.slot c.self.view_is c.self.invariant.linked
    ∙ here.stored
    ∙ sym (c.replace.ensures.value ∙ read _ _ _ here _ c.index_mut.ensures.value)
    ∙ c.unwrap.ensures

pub returns-clause-revalues : goal.returns-clause-revalues
returns-clause-revalues g c =
    let here = found c.args.self.now c.self.inside.cells c.self.inside.values.items (vec_len c.self.inside.free) c.args.slot c.self.view_is c.self.invariant.linked c.requires in
    let same = seen-with_value c.self.inside.cells c.self.inside.values.items (vec_len c.self.inside.free) c.args.slot c.args.v here ∙ ap (λ a. with_value a c.args.slot c.args.v) c.self.view_is in
    rw (c.replace.ensures.after, same) (Revalues-with_value c.args.self.now c.args.slot c.args.v c.requires)

pub returns-clause-len : goal.returns-clause-len
returns-clause-len g c = live_count-revalues c.args.self.now _ c.args.slot c.args.v c.requires (returns-clause-revalues g c)
