use Rattle.std.proofs.Common.{◌<◌, length, arith}
use Rattle.trace_machine.proofs.Asking.{prefers_few}
use Rattle.trace_machine.proofs.Readings.{hand_read}
use Rattle.trace_machine.proofs.parts.Parts.is_kept_out.Goals as goal

pub may_enter-requires-clause-preferred : goal.may_enter-requires-clause-preferred
may_enter-requires-clause-preferred g c =
    let p = c.args.self.now in
    let setup = c.self.inside.setup in
    let a = c.args.actor in
    let hand = c.index.result.now in
    let there : a < length p.hands = omega (arith, c.requires.ready.actor, c.requires.ready.hands) in
    let hand_is = hand_read g.K.Cluster.view setup c.self.inside.clusters.items c.self.inside.hands.items p a hand c.self.view_is there c.index.ensures in
    prefers_few p a setup hand c.in-Some.thread c.facts.result c.fitting_prefers_among.ensures c.requires.ready hand_is c.in-Some.is c.facts.ensures.facts
