use Rattle.std.proofs.Common.{None, ap, sym, subst}
use Rattle.flat_policy.specs.Policy.BuiltSetups.{IsSetup}
use Rattle.trace_machine.specs.Parts.{PartsView}
use Rattle.trace_machine.proofs.InHands.{hand_reset}
use Rattle.trace_machine.proofs.parts.Parts.release.Goals as goal

pub returns-clause-parts : goal.returns-clause-parts
returns-clause-parts g c =
    let setup = c.self.inside.setup in
    hand_reset g.K.Cluster.view setup c.self.inside.clusters.items c.self.inside.hands.items c.args.self.now c.args.actor c.take.new.self None c.clear.new.self c.args.now c.self.view_is
    c.take.ensures.after
    (c.clear.ensures.among setup (subst IsSetup (sym (ap (λ (q : PartsView). q.setup) c.self.view_is)) c.requires.built))
