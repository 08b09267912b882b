use Rattle.std.proofs.Common.{◌<◌, ap, sym, ◌∙◌, subst}
use Rattle.flat_policy.specs.Policy.Queue.{empty_flat}
use Rattle.flat_policy.specs.Policy.Setup.{SetupParts, cluster_count, cluster_times}
use Rattle.cluster_queue.proofs.Wholes.{made_cluster}
use Rattle.cluster_queue.proofs.cluster.ClusterQueueCluster.new.Goals as goal

pub invariant_of-result : goal.invariant_of-result
invariant_of-result c =
    let setup = c.in_ok-setup.setup in
    let made = c.in_ok-queue.ensures in
    record {
      cluster = made_cluster c.empty_is_well_formed.ensures setup c.args.c c.in_ok-queue.queue c.keeps_ranges.ensures
          (subst (λ (s : SetupParts). c.args.c < cluster_count s) (sym c.in_ok-setup.ensures) c.requires)
          (made.flat ∙ ap empty_flat c.groups.ensures.count) made.slots made.spare;
      nested = made.nested;
      groups = made.groups ∙ c.groups.ensures.count;
      times = made.times ∙ (c.cluster_times-times.ensures.times ∙ ap (λ (s : SetupParts). cluster_times s c.args.c) (sym c.in_ok-setup.ensures));
    }
