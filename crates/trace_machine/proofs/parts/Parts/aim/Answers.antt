use Rattle.std.proofs.Common.{◌<◌, length, ap, arith, ◌∙◌}
use Rattle.edge_matrix.specs.EdgeTables.{edges_of}
use Rattle.flat_policy.specs.Policy.Setup.{SetupParts}
use Rattle.trace_machine.specs.Parts.{PartsView}
use Rattle.trace_machine.proofs.Asking.{aims, prefers_few, prefers_one}
use Rattle.trace_machine.proofs.Readings.{hand_read}
use Rattle.trace_machine.proofs.parts.Parts.aim.Goals as goal

pub aim-requires : goal.aim-requires
aim-requires g c =
    let p = c.args.self.now in
    let setup = c.self.inside.setup in
    let a = c.args.actor in
    let hand = c.index-hand.result.now in
    let there : a < length p.hands = omega (arith, c.requires.ready.actor, c.requires.ready.hands) in
    let hand_is = hand_read g.K.Cluster.view setup c.self.inside.clusters.items c.self.inside.hands.items p a hand c.self.view_is there c.index-hand.ensures in
    prefers_few p a setup hand c.in-Some.thread c.facts.result c.fitting_prefers_among.ensures c.requires.ready hand_is c.in-Some.is c.facts.ensures.facts

pub returns : goal.returns
returns g c t is =
    let p = c.args.self.now in
    let setup = c.self.inside.setup in
    let a = c.args.actor in
    let hand = c.index-hand.result.now in
    let there : a < length p.hands = omega (arith, c.requires.ready.actor, c.requires.ready.hands) in
    let hand_is = hand_read g.K.Cluster.view setup c.self.inside.clusters.items c.self.inside.hands.items p a hand c.self.view_is there c.index-hand.ensures in
    let setup_is = ap (λ (q : PartsView). q.setup) c.self.view_is in
    aims p a setup hand t c.in-Some.thread c.facts.result c.aim.result setup_is hand_is c.in-Some.is c.facts.ensures.facts is
    (c.aim.ensures.among p.setup c.requires.ready.setup (c.self.invariant.0 ∙ ap (λ (s : SetupParts). edges_of s) setup_is)
    (prefers_one p a setup hand c.in-Some.thread c.facts.result c.fitting_prefers_among.ensures c.requires.ready hand_is c.in-Some.is c.facts.ensures.facts))
