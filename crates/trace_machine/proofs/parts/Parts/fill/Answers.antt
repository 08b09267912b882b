use Rattle.std.proofs.Common.{Some, ap, sym, subst}
use Rattle.flat_policy.specs.Policy.BuiltSetups.{IsSetup}
use Rattle.trace_machine.specs.Parts.{PartsView}
use Rattle.trace_machine.proofs.InHands.{hand_reset}
use Rattle.trace_machine.proofs.parts.Parts.fill.Goals as goal

pub returns : goal.returns
returns g c =
    let setup = c.self.inside.setup in
    hand_reset g.K.Cluster.view setup c.self.inside.clusters.items c.self.inside.hands.items c.args.self.now c.args.actor c.replace.new.dest (Some c.args.thread) c.clear.new.self c.args.now c.self.view_is
    c.replace.ensures.after
    (c.clear.ensures.among setup (subst IsSetup (sym (ap (λ (q : PartsView). q.setup) c.self.view_is)) c.requires.built))
