-- A cell is added, whose slot has no value and is listed.
use Rattle.std.proofs.Common.{◌≡◌, ◌+◌, ◌<◌, ◌≤◌, ℕ, None, ap, ◌∙◌, arith, get_or, length, vec_capacity}
use Rattle.slab.specs.Slab.{get, slab_len}
use Rattle.link_arena.proofs.SoundLemmas.{IsSound-more}
use Rattle.link_arena.proofs.LenLemmas.{live_count-same}
use Rattle.link_arena.proofs.MapLemmas.{SameMap-added, Updates-added}
use Rattle.link_arena.proofs.arena.Arena.reserve.Goals as goal

pub invariant_of-self-2 : goal.invariant_of-self-2
invariant_of-self-2 g c =
    let cells = c.self.inside.cells in
    let kept = c.in_ok-reserve-3.ensures.rest_kept in
    let key_is = c.in-Ok.ensures.1 ∙ c.vacant_key-key.ensures.value in
    let updates = Updates-added cells _ _ c.in-Ok.number _ _ kept c.insert_reserved.ensures.updates c.insert_reserved.ensures.key key_is in
    let vacant = ap (get cells) c.in-Ok.ensures.1 ∙ c.vacant_key-key.ensures.vacant in
    let len : slab_len c.insert_reserved.new.self ≡ slab_len cells + 1 = c.insert_reserved.ensures.len ∙ ap (λ s. slab_len s + 1) kept in
    let room : slab_len c.insert_reserved.new.self ≤ vec_capacity c.push_reserved.new.self =
    omega (arith, len, c.in-Some.ensures, c.len.ensures, c.len-2.ensures, c.in_ok-reserve.ensures.ok, c.in_ok-reserve.ensures.len, c.push_reserved.ensures.capacity, c.self.invariant.counted) in
    let same : (k : ℕ) → get_or c.lengthen.new.values.items k None ≡ get_or c.self.inside.values.items k None =
    λ k. c.lengthen.ensures.same k ∙ ap (λ xs. get_or xs k None) c.in_ok-reserve-2.ensures.items in
    let longer : length c.self.inside.values.items ≤ length c.lengthen.new.values.items =
    omega (arith, c.lengthen.ensures.longer, c.in_ok-reserve-2.ensures.len, c.self.inside.values.ok.0, c.lengthen.new.values.ok.0) in
    let within : c.in-Ok.number < length c.lengthen.new.values.items =
    omega (arith, c.lengthen.ensures.long, c.in-Ok.ensures.1, c.lengthen.new.values.ok.0) in
    rw (c.push_reserved.ensures.items, c.in_ok-reserve.ensures.items)
    (IsSound-more cells c.insert_reserved.new.self c.self.inside.values.items _ _ _ _ c.in-Ok.number _ vacant updates len room (omega arith) longer within same c.self.invariant)

pub returns-clause-map : goal.returns-clause-map
returns-clause-map g c =
    let cells = c.self.inside.cells in
    let kept = c.in_ok-reserve-3.ensures.rest_kept in
    let key_is = c.in-Ok.ensures.1 ∙ c.vacant_key-key.ensures.value in
    let updates = Updates-added cells _ _ c.in-Ok.number _ _ kept c.insert_reserved.ensures.updates c.insert_reserved.ensures.key key_is in
    let vacant = ap (get cells) c.in-Ok.ensures.1 ∙ c.vacant_key-key.ensures.vacant in
    let same : (k : ℕ) → get_or c.lengthen.new.values.items k None ≡ get_or c.self.inside.values.items k None =
    λ k. c.lengthen.ensures.same k ∙ ap (λ xs. get_or xs k None) c.in_ok-reserve-2.ensures.items in
    rw (← c.self.view_is) (SameMap-added cells c.insert_reserved.new.self c.self.inside.values.items _ _ _ c.in-Ok.number _ c.self.invariant.linked vacant updates same)

pub returns-clause-len : goal.returns-clause-len
returns-clause-len g c = live_count-same c.args.self.now _ (returns-clause-map g c)
