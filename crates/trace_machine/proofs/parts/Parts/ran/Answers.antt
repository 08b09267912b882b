use Rattle.std.proofs.Common.{◌<◌, ap, length, arith, ◌∙◌}
use Rattle.flat_policy.specs.Policy.Machine.{Hand}
use Rattle.flat_policy.specs.Policy.Setup.{home_of, rate_of}
use Rattle.sched_base.specs.declared.Facts.{Facts}
use Rattle.trace_machine.specs.Parts.{PartsView}
use Rattle.trace_machine.proofs.InHands.{hand_ran, runs}
use Rattle.trace_machine.proofs.Readings.{hand_read}
use Rattle.trace_machine.proofs.parts.Parts.ran.Goals as goal

pub returns-clause-does : goal.returns-clause-does
returns-clause-does g c =
    let p = c.args.self.now in
    let view = g.K.Cluster.view in
    let setup = c.self.inside.setup in
    let xs = c.self.inside.clusters.items in
    let hs = c.self.inside.hands.items in
    let a = c.args.actor in
    let hand = c.index_mut-hand.result.now in
    let there : a < length p.hands = omega (arith, c.requires.ready.actor, c.requires.ready.hands) in
    let hand_is = hand_read view setup xs hs p a hand c.self.view_is there c.index_mut-hand.ensures.value in
    runs p _ a c.args.now c.args.us c.rate-rate.result c.facts.result.work c.in-Some.thread c.charge.new.self
    (ap (λ (h : Hand). h.thread) hand_is ∙ c.in-Some.is)
    (c.rate-rate.ensures.rate ∙ ap (λ k. rate_of setup k) c.home.ensures.home ∙ ap (λ (q : PartsView). rate_of q.setup (home_of p.setup a)) c.self.view_is)
    c.charge.ensures
    (ap (λ (f : Facts). f.work) c.facts.ensures.facts)
    (hand_ran view setup xs hs p a hand c.charge.new.self c.args.now c.self.view_is there c.index_mut-hand.ensures.value)

pub returns-clause-clusters : goal.returns-clause-clusters
returns-clause-clusters g c = ap (λ (q : PartsView). q.clusters) c.self.view_is
