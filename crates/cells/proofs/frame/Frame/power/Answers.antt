use Rattle.std.proofs.Common.{◌<◌, ◌==◌, ◌∙◌, List, Vec, Global, ap, find, length, map, arith}
use Rattle.std.specs.Option.{option_map}
use Rattle.std.proofs.lemmas.List.{length-map}
use Rattle.flat_policy.specs.declared.texts.Power.{Power}
use Rattle.cells.proofs.Framing.{told_at}
use Rattle.cells.proofs.frame.Frame.power.Goals as goal

pub returns-then-at-len : goal.returns-then-at-len
returns-then-at-len g c =
    let items = λ (r : Vec Power Global). r.items in
    let below : c.args.turn < length c.self.inside.powers.items = omega (arith, c.if-at-len.true, c.len.ensures) in
    let within : c.args.turn < length (map items c.self.inside.powers.items) = omega (arith, below, length-map c.self.inside.powers.items items) in
    c.power_among.ensures
    ∙ ap (λ (ps : List Power). option_map (λ (p : Power). p.on) (find (λ (p : Power). p.cluster == c.args.cluster) ps)) c.deref.ensures.value
    ∙ told_at g.N.RunName.powers c.self.inside.powers.items c.index.result.now c.args.self.now c.args.cluster c.args.turn c.self.view_is below c.index.ensures
    (c.self.invariant.told c.args.turn within)
