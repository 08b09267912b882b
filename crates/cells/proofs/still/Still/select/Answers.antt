use Rattle.std.proofs.Common.{◌<◌, subst}
use Rattle.flat_policy.specs.Policy.Setup.{SetupParts, cluster_count}
use Rattle.cells.proofs.Placing.{filled_at, still_filled}
use Rattle.cells.proofs.still.Still.select.Goals as goal

pub select-requires-clause-there : goal.select-requires-clause-there
select-requires-clause-there g c = filled_at (cluster_count g.N.RunName.setup) c.home-home.result c.self.inside.clusters c.self.invariant.1 (subst (λ (s : SetupParts). c.home-home.result < cluster_count s) c.setup.ensures c.home-home.ensures.below)

pub invariant_of-self : goal.invariant_of-self
invariant_of-self g c = (
  c.self.invariant.0,
  still_filled (cluster_count g.N.RunName.setup) c.home-home.result c.self.inside.clusters c.select.new.self _ _ c.self.invariant.1 (subst (λ (s : SetupParts). c.home-home.result < cluster_count s) c.setup.ensures c.home-home.ensures.below) c.select.ensures.step,
  c.self.invariant.2,
  c.self.invariant.3,
  c.self.invariant.4,
)
