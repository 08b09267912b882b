use Rattle.flat_policy.specs.Policy.Setup.{cluster_count}
use Rattle.cells.proofs.Placing.{filled_at, still_filled}
use Rattle.cells.proofs.still.Still.enter.Goals as goal

pub enter-requires-clause-there : goal.enter-requires-clause-there
enter-requires-clause-there g c = filled_at (cluster_count g.N.RunName.setup) c.args.c c.self.inside.clusters c.self.invariant.1 c.requires.there

pub invariant_of-self : goal.invariant_of-self
invariant_of-self g c = (
  c.self.invariant.0,
  still_filled (cluster_count g.N.RunName.setup) c.args.c c.self.inside.clusters c.enter.new.self _ _ c.self.invariant.1 c.requires.there c.enter.ensures,
  c.self.invariant.2,
  c.self.invariant.3,
  c.self.invariant.4,
)
