-- The value goes out of its slot, which is listed.
use Rattle.std.proofs.Common.{ap, sym, ◌∙◌, arith, is_some, vec_len}
use Rattle.link_arena.proofs.SoundLemmas.{IsSound-emptied, room_to_list}
use Rattle.link_arena.proofs.LenLemmas.{live_count-removes}
use Rattle.link_arena.proofs.MapLemmas.{Removes-set, found, read, value_is}
use Rattle.link_arena.proofs.arena.Arena.remove.Goals as goal

pub index_mut-requires : goal.index_mut-requires
index_mut-requires g c =
    let here = found c.args.self.now c.self.inside.cells c.self.inside.values.items (vec_len c.self.inside.free) c.args.slot c.self.view_is c.self.invariant.linked c.requires.live in
    omega (arith, here.within, c.self.inside.values.ok.0)

pub unwrap-value-requires : goal.unwrap-value-requires
unwrap-value-requires g c =
    let here = found c.args.self.now c.self.inside.cells c.self.inside.values.items (vec_len c.self.inside.free) c.args.slot c.self.view_is c.self.invariant.linked c.requires.live in
    let taken = c.take.ensures.value ∙ read _ _ _ here _ c.index_mut.ensures.value in
    ap is_some taken

pub push_reserved-requires : goal.push_reserved-requires
push_reserved-requires g c =
    let here = found c.args.self.now c.self.inside.cells c.self.inside.values.items (vec_len c.self.inside.free) c.args.slot c.self.view_is c.self.invariant.linked c.requires.live in
    omega (arith, room_to_list _ _ _ _ _ _ here.stored c.self.invariant, c.self.inside.free.ok.0)

pub invariant_of-self : goal.invariant_of-self
invariant_of-self g c =
    let here = found c.args.self.now c.self.inside.cells c.self.inside.values.items (vec_len c.self.inside.free) c.args.slot c.self.view_is c.self.invariant.linked c.requires.live in
    rw (c.push_reserved.ensures.items, c.push_reserved.ensures.capacity, c.take.ensures.after) (IsSound-emptied _ _ _ _ _ _ here.stored c.self.invariant)

pub returns-clause-value : goal.returns-clause-value
returns-clause-value g c =
    let here = found c.args.self.now c.self.inside.cells c.self.inside.values.items (vec_len c.self.inside.free) c.args.slot c.self.view_is c.self.invariant.linked c.requires.live in
    value_is c.args.self.now c.self.inside.cells c.self.inside.values.items (vec_len c.self.inside.free) c.args.slot c.self.view_is c.self.invariant.linked
    ∙ here.stored
    ∙ sym (c.take.ensures.value ∙ read _ _ _ here _ c.index_mut.ensures.value)
    ∙ c.unwrap-value.ensures

pub returns-clause-removes : goal.returns-clause-removes
returns-clause-removes g c =
    let here = found c.args.self.now c.self.inside.cells c.self.inside.values.items (vec_len c.self.inside.free) c.args.slot c.self.view_is c.self.invariant.linked c.requires.live in
    rw (← c.self.view_is, c.take.ensures.after) (Removes-set c.self.inside.cells c.self.inside.values.items _ _ _ here.within)

pub returns-clause-len : goal.returns-clause-len
returns-clause-len g c = live_count-removes c.args.self.now _ c.args.slot c.unwrap-value.result (returns-clause-value g c) (returns-clause-removes g c)
