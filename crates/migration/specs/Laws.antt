-- What looks mean to an aim.
use Rattle.std.specs.Prelude.{List, Option, ◌<◌, ◌≡◌}
use Rattle.sched_base.specs.declared.Facts.{Facts}
use Rattle.flat_policy.specs.Policy.Aim.{Look, aim, not_looked}
use Rattle.flat_policy.specs.Policy.Setup.{SetupParts, cluster_count}
use Rattle.migration.specs.Looks.{looks_among}

-- looks past the clusters of a setup decide nothing
pub record GoesByClusters (setup : SetupParts) (looks : List (Option Look)) (t : Facts) : Type 0 where
  pub aim : aim setup (looks_among setup looks) t ≡ aim setup looks t
  pub look_first : not_looked setup (looks_among setup looks) t ≡ not_looked setup looks t

-- so an aim goes by the looks at the clusters alone
abbrev pub AimGoesByClusters : Type 0
AimGoesByClusters = (setup : SetupParts) (looks : List (Option Look)) (t : Facts) → t.prefer < cluster_count setup → GoesByClusters setup looks t
