use Rattle.flat_policy.proofs.SetupLaws.{size_in_range}
use Rattle.flat_policy.proofs.setup.Setup.cpus.Goals as goal

pub returns-clause-least : goal.returns-clause-least
returns-clause-least c = (size_in_range c.self.inside c.args.self.now c.args.c c.index.result.now c.self.invariant c.self.view_is c.requires c.index.ensures).cpus_least

pub returns-clause-most : goal.returns-clause-most
returns-clause-most c = (size_in_range c.self.inside c.args.self.now c.args.c c.index.result.now c.self.invariant c.self.view_is c.requires c.index.ensures).cpus_most
