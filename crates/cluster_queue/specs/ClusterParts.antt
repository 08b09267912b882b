-- What the fields of a cluster mean and keep.
use Rattle.std.specs.Prelude.{◌≡◌}
use Rattle.flat_policy.specs.Policy.Clusters.{ClusterView, IsCluster}
use Rattle.flat_policy.specs.Policy.Setup.{cluster_times, group_count}
use Rattle.cluster_queue.specs.Queues.{IsNested, flat_of, slots_of}
use Rattle.cluster_queue.specs.declared.cluster.ClusterQueue.TheInside.{Inside}

-- the cluster as the policy defines it
abbrev pub view_of : Inside → ClusterView
view_of p = record {
  setup = p.setup;
  number = p.number;
  flat = flat_of p.queue;
  slots = slots_of p.queue;
  spare = p.queue.spare;
}

-- it keeps what every cluster keeps, all parts are those of its queue, and its groups and times are those of the setup
pub record IsClusterQueue (p : Inside) : Type 0 where
  pub cluster : IsCluster (view_of p)
  pub nested : IsNested p.queue
  pub groups : p.queue.groups ≡ group_count p.setup
  pub times : p.queue.windows.times ≡ cluster_times p.setup p.number
