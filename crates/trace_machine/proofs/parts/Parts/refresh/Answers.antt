use Rattle.std.proofs.Common.{arith}
use Rattle.flat_policy.specs.Policy.Machine.{Hand, kept_hand}
use Rattle.trace_machine.proofs.Readings.{cluster_read, hand_after_cluster}
use Rattle.trace_machine.proofs.Touching.{refreshes}
use Rattle.trace_machine.proofs.parts.Parts.refresh.Goals as goal

pub returns : goal.returns
returns g c =
    let p = c.args.self.now in
    let view = g.K.Cluster.view in
    let setup = c.self.inside.setup in
    let xs = c.self.inside.clusters.items in
    let hs = c.self.inside.hands.items in
    let now = c.args.now in
    let home = c.home-home.ensures.home in
    let old = c.index_mut-cluster.result.now in
    let x = c.refresh-changed.new.self in
    refreshes p c.keep.new.self c.args.actor now c.refresh-changed.result c.home-home.result (view old) (view x)
    home c.home-home.ensures.below c.calls_keep_standing.ensures c.keeps.ensures c.requires.ready c.requires.later
    (cluster_read view setup xs hs p c.home-home.result old c.self.view_is (omega (arith, c.home-home.ensures.below, c.requires.ready.clusters)) c.index_mut-cluster.ensures.value)
    c.refresh-changed.ensures.view c.refresh-changed.ensures.rises c.refresh-changed.ensures.changed
    (hand_after_cluster view setup xs hs p c.keep.new.self c.home-home.result x c.args.actor (λ (h : Hand). kept_hand h now) c.self.view_is c.keep.ensures)
