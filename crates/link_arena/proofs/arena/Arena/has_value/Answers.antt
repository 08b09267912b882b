-- A slot is live where the list has a value.
use Rattle.std.proofs.Common.{◌<◌, None, arith, ap, sym, ◌∙◌, is_some, length, vec_len}
use Rattle.std.proofs.lemmas.List.{get_or_default}
use Rattle.link_arena.proofs.MapLemmas.{found, value_is}
use Rattle.link_arena.proofs.arena.Arena.has_value.Goals as goal

pub returns-then-len-key-clause-live : goal.returns-then-len-key-clause-live
returns-then-len-key-clause-live g c = (
  λ never. cc,
  λ live. absurd (omega (arith, (found c.args.self.now c.self.inside.cells c.self.inside.values.items (vec_len c.self.inside.free) c.args.key c.self.view_is c.self.invariant.linked live).within, c.len.ensures, c.if-len-key.true, c.self.inside.values.ok.0)),
)

pub returns-clause-live : goal.returns-clause-live
returns-clause-live g c =
    let within : c.args.key < length c.self.inside.values.items = omega (arith, c.len.ensures, c.if-len-key.false, c.self.inside.values.ok.0) in
    let same =
    ap is_some (value_is c.args.self.now c.self.inside.cells c.self.inside.values.items (vec_len c.self.inside.free) c.args.key c.self.view_is c.self.invariant.linked
    ∙ sym (c.index.ensures ∙ get_or_default _ _ _ None within))
    ∙ sym c.is_some.ensures in
    (λ some. same ∙ some, λ live. sym same ∙ live)
