use Rattle.std.proofs.Common.{true, false, ap, refl, arith, ◌∙◌}
use Rattle.flat_policy.specs.Policy.Clusters.{after_turn}
use Rattle.flat_policy.specs.Policy.Machine.{Hand, kept_hand}
use Rattle.sched_base.specs.declared.Act.TheVariants as acts
use Rattle.trace_machine.proofs.Readings.{cluster_read, hand_after_cluster}
use Rattle.trace_machine.proofs.Touching.{turns}
use Rattle.trace_machine.proofs.parts.Parts.turn.Goals as goal

pub returns-clause-off : goal.returns-clause-off
returns-clause-off g c is =
    let p = c.args.self.now in
    let view = g.K.Cluster.view in
    let setup = c.self.inside.setup in
    let xs = c.self.inside.clusters.items in
    let hs = c.self.inside.hands.items in
    let now = c.args.now in
    let old = c.index_mut.result.now in
    let x = c.turn.new.self in
    turns p c.keep.new.self c.args.actor now c.args.c (acts.Off c.args.c) (view old) (view x) false c.requires.cluster c.requires.ready c.requires.later
    (cluster_read view setup xs hs p c.args.c old c.self.view_is (omega (arith, c.requires.cluster, c.requires.ready.clusters)) c.index_mut.ensures.value)
    (c.turn.ensures.view ∙ ap (λ b. after_turn (view old) b now) is)
    (λ y. refl)
    (hand_after_cluster view setup xs hs p c.keep.new.self c.args.c x c.args.actor (λ (h : Hand). kept_hand h now) c.self.view_is c.keep.ensures)

pub returns-clause-on : goal.returns-clause-on
returns-clause-on g c is =
    let p = c.args.self.now in
    let view = g.K.Cluster.view in
    let setup = c.self.inside.setup in
    let xs = c.self.inside.clusters.items in
    let hs = c.self.inside.hands.items in
    let now = c.args.now in
    let old = c.index_mut.result.now in
    let x = c.turn.new.self in
    turns p c.keep.new.self c.args.actor now c.args.c (acts.On c.args.c) (view old) (view x) true c.requires.cluster c.requires.ready c.requires.later
    (cluster_read view setup xs hs p c.args.c old c.self.view_is (omega (arith, c.requires.cluster, c.requires.ready.clusters)) c.index_mut.ensures.value)
    (c.turn.ensures.view ∙ ap (λ b. after_turn (view old) b now) is)
    (λ y. refl)
    (hand_after_cluster view setup xs hs p c.keep.new.self c.args.c x c.args.actor (λ (h : Hand). kept_hand h now) c.self.view_is c.keep.ensures)
