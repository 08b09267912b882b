-- Any value may be written, so the slot has one afterwards.
use Rattle.std.proofs.Common.{refl, sym, ap, ◌∙◌, arith, is_some, vec_len}
use Rattle.std.specs.Option.{option_copied_mut}
use Rattle.link_arena.specs.Arena.{with_value}
use Rattle.link_arena.proofs.SoundLemmas.{IsSound-revalued}
use Rattle.link_arena.proofs.LenLemmas.{live_count-revalues}
use Rattle.link_arena.proofs.MapLemmas.{found, read, value_is, seen-with_value, Revalues-with_value}
use Rattle.link_arena.proofs.arena.Arena.get_mut.Goals as goal

pub index_mut-requires : goal.index_mut-requires
index_mut-requires g c =
    let here = found c.args.self.now c.self.inside.cells c.self.inside.values.items (vec_len c.self.inside.free) c.args.slot c.self.view_is c.self.invariant.linked c.requires in
    omega (arith, here.within, c.self.inside.values.ok.0)

pub unwrap-requires : goal.unwrap-requires
unwrap-requires g c =
    let here = found c.args.self.now c.self.inside.cells c.self.inside.values.items (vec_len c.self.inside.free) c.args.slot c.self.view_is c.self.invariant.linked c.requires in
    c.as_mut.ensures.variant ∙ ap is_some (read _ _ _ here _ c.index_mut.ensures.value)

pub invariant_of-self-lent : goal.invariant_of-self-lent
invariant_of-self-lent g c w =
    let here = found c.args.self.now c.self.inside.cells c.self.inside.values.items (vec_len c.self.inside.free) c.args.slot c.self.view_is c.self.invariant.linked c.requires in
    IsSound-revalued _ _ _ _ _ here.value w here.stored c.self.invariant

pub returns : goal.returns
returns g c =
    let here = found c.args.self.now c.self.inside.cells c.self.inside.values.items (vec_len c.self.inside.free) c.args.slot c.self.view_is c.self.invariant.linked c.requires in
    let value = sym c.as_mut.ensures.value ∙ ap option_copied_mut c.unwrap.ensures in (
      (
        refl,
        λ w. seen-with_value c.self.inside.cells c.self.inside.values.items _ _ w here ∙ ap (λ a. with_value a c.args.slot w) c.self.view_is,
      ),
      record {
        writes_back = tt;
        value = value_is c.args.self.now c.self.inside.cells c.self.inside.values.items (vec_len c.self.inside.free) c.args.slot c.self.view_is c.self.invariant.linked
            ∙ here.stored
            ∙ sym (read _ _ _ here _ c.index_mut.ensures.value)
            ∙ value;
        revalues = λ w. Revalues-with_value c.args.self.now c.args.slot w c.requires;
        len = λ w. live_count-revalues c.args.self.now (with_value c.args.self.now c.args.slot w) c.args.slot w c.requires (Revalues-with_value c.args.self.now c.args.slot w c.requires);
      },
    )
