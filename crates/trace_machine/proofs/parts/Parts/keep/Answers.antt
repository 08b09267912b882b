use Rattle.trace_machine.proofs.InHands.{hand_kept}
use Rattle.trace_machine.proofs.parts.Parts.keep.Goals as goal

pub returns : goal.returns
returns g c =
    hand_kept g.K.Cluster.view c.self.inside.setup c.self.inside.clusters.items c.self.inside.hands.items c.args.self.now c.args.actor c.index_mut.result.now c.args.now c.self.view_is c.requires c.index_mut.ensures.value
