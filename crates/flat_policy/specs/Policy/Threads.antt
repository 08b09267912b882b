-- What a thread of a setup keeps from its making on.
use Rattle.std.specs.Prelude.{Option, Some, unwrap_or, ℕ, ◌<◌, ◌^◌, ◌≡◌, ◌≤◌}
use Rattle.sched_base.specs.Facts.{fresh}
use Rattle.sched_base.specs.Limits.{most_base}
use Rattle.sched_base.specs.declared.Bucket.{Bucket}
use Rattle.sched_base.specs.declared.Facts.{Facts}
use Rattle.flat_policy.specs.Policy.Setup.{SetupParts, cluster_count, group_count, preferred_cluster}

-- the cluster that a thread prefers: the one that it is bound to, otherwise the setup's for its group and bucket
abbrev pub preference : SetupParts → ℕ → Bucket → Option ℕ → ℕ
preference setup group bucket bound = unwrap_or bound (preferred_cluster setup group bucket)

-- a thread made at a moment
abbrev pub made_thread : SetupParts → ℕ → ℕ → Bucket → ℕ → Option ℕ → ℕ → Facts
made_thread setup name group bucket base bound now =
    fresh name group bucket base bound (preference setup group bucket bound) now

-- a thread's group, base and bound cluster are in range, it prefers the cluster that it should, and its name, usage and spans are below 2^32
pub record ThreadFits (setup : SetupParts) (t : Facts) : Type 0 where
  pub group : t.group < group_count setup
  pub base : t.base ≤ most_base
  pub bound : (c : ℕ) → t.bound ≡ Some c → c < cluster_count setup
  pub prefer : t.prefer ≡ preference setup t.group t.bucket t.bound
  pub name : t.name < 2 ^ 32
  pub usage : t.usage < 2 ^ 32
  pub pending_ran : t.pending_ran < 2 ^ 32
  pub pending_blocked : t.pending_blocked < 2 ^ 32
