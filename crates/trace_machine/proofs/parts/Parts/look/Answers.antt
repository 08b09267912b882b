use Rattle.std.proofs.Common.{◌<◌, length, ap, sym, subst, refl, arith, ◌∙◌}
use Rattle.flat_policy.specs.Policy.Machine.{Hand}
use Rattle.flat_policy.specs.Policy.Setup.{SetupParts, cluster_count}
use Rattle.sched_base.specs.declared.Answer.TheVariants as answers
use Rattle.trace_machine.specs.Parts.{PartsView, hand_of}
use Rattle.trace_machine.proofs.Readings.{cluster_read, hand_read}
use Rattle.trace_machine.proofs.Looking.{hand_looked, looks_off, looks_on}
use Rattle.trace_machine.proofs.Touching.{some_held}
use Rattle.trace_machine.proofs.parts.Parts.look.Goals as goal

pub returns-then-not-is_on : goal.returns-then-not-is_on
returns-then-not-is_on g c =
    let p = c.args.self.now in
    let view = g.K.Cluster.view in
    let setup = c.self.inside.setup in
    let xs = c.self.inside.clusters.items in
    let hs = c.self.inside.hands.items in
    let now = c.args.now in
    let old = c.index_mut-cluster.result.now in
    let hand = c.index_mut-hand.result.now in
    let setup_is = ap (λ (q : PartsView). q.setup) c.self.view_is in
    let cluster_there : c.args.c < length p.clusters = omega (arith, c.requires.cluster, c.requires.ready.clusters) in
    let hand_there : c.args.actor < length p.hands = omega (arith, c.requires.ready.actor, c.requires.ready.hands) in
    let among : c.args.c < cluster_count setup = subst (λ (s : SetupParts). c.args.c < cluster_count s) (sym setup_is) c.requires.cluster in
    let cluster_is = cluster_read view setup xs hs p c.args.c old c.self.view_is cluster_there c.index_mut-cluster.ensures.value in
    let hand_is = hand_read view setup xs hs p c.args.actor hand c.self.view_is hand_there c.index_mut-hand.ensures.value in
    let x = c.touch.new.self in
    let held = some_held (hand_of p c.args.actor).thread c.requires.held in
    looks_off p _ c.args.actor now c.args.c (view old) (view x) held.0 c.requires.cluster c.requires.ready c.requires.later cluster_is c.touch.ensures.view held.1
    (sym c.is_on.ensures ∙ c.if-not-is_on.true)
    (hand_looked view setup xs hs p c.args.c x c.args.actor hand c.note_off.new.self answers.Off now c.self.view_is hand_there c.index_mut-hand.ensures.value (c.note_off.ensures.among setup among))

pub returns : goal.returns
returns g c =
    let p = c.args.self.now in
    let view = g.K.Cluster.view in
    let setup = c.self.inside.setup in
    let xs = c.self.inside.clusters.items in
    let hs = c.self.inside.hands.items in
    let now = c.args.now in
    let old = c.index_mut-cluster.result.now in
    let hand = c.index_mut-hand.result.now in
    let setup_is = ap (λ (q : PartsView). q.setup) c.self.view_is in
    let cluster_there : c.args.c < length p.clusters = omega (arith, c.requires.cluster, c.requires.ready.clusters) in
    let hand_there : c.args.actor < length p.hands = omega (arith, c.requires.ready.actor, c.requires.ready.hands) in
    let among : c.args.c < cluster_count setup = subst (λ (s : SetupParts). c.args.c < cluster_count s) (sym setup_is) c.requires.cluster in
    let cluster_is = cluster_read view setup xs hs p c.args.c old c.self.view_is cluster_there c.index_mut-cluster.ensures.value in
    let hand_is = hand_read view setup xs hs p c.args.actor hand c.self.view_is hand_there c.index_mut-hand.ensures.value in
    let x = c.look-load.new.self in
    let v = view old in
    let thread = c.in-Some.thread in
    looks_on p _ c.args.actor now c.args.c c.look-load.result v (view x) thread c.facts.result c.requires.cluster c.requires.ready c.requires.later cluster_is c.look-load.ensures.view
    (ap (λ (h : Hand). h.thread) hand_is ∙ c.in-Some.is)
    c.facts.ensures.facts
    (sym c.is_on.ensures ∙ c.if-not-is_on.false)
    (c.look-load.ensures.load _ refl)
    (hand_looked view setup xs hs p c.args.c x c.args.actor hand c.note.new.self (answers.Load c.look-load.result) now c.self.view_is hand_there c.index_mut-hand.ensures.value (c.note.ensures.among setup among))
