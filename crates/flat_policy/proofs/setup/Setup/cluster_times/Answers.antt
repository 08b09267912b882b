use Rattle.std.proofs.Common.{◌≡◌, [], ◌∷◌, subst, sym}
use Rattle.flat_policy.specs.Policy.BuiltSetups.{IsClusterTimes}
use Rattle.flat_policy.specs.Policy.Setup.{cluster_times}
use Rattle.flat_policy.proofs.SixTimes.{cluster_times_fit, six_times}
use Rattle.flat_policy.proofs.setup.Setup.cluster_times.Goals as goal

fits : (c : goal.After-times-6) → IsClusterTimes (cluster_times c.args.self.now c.args.c)
fits c = cluster_times_fit c.args.self.now c.args.c c.keeps_ranges.ensures c.requires

read : (c : goal.After-times-6) → c.times.result ∷ c.times-2.result ∷ c.times-3.result ∷ c.times-4.result ∷ c.times-5.result ∷ c.times-6.result ∷ [] ≡ cluster_times c.args.self.now c.args.c
read c =
    six_times (cluster_times c.args.self.now c.args.c) _ _ _ _ _ _ (fits c)
    c.times.ensures.times c.times-2.ensures.times c.times-3.ensures.times c.times-4.ensures.times c.times-5.ensures.times c.times-6.ensures.times

pub returns-clause-times : goal.returns-clause-times
returns-clause-times c = read c

pub returns-clause-ranges : goal.returns-clause-ranges
returns-clause-ranges c = subst IsClusterTimes (sym (read c)) (fits c)
