use Rattle.flat_policy.specs.Policy.Setup.{cluster_count}
use Rattle.cells.proofs.Placing.{filled_at}
use Rattle.cells.proofs.still.Still.queued.Goals as goal

pub queued-requires : goal.queued-requires
queued-requires g c = filled_at (cluster_count g.N.RunName.setup) c.args.c c.self.inside.clusters c.self.invariant.1 c.requires
