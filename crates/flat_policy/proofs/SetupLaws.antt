-- What a setup's ranges say of the definitions that read it.
use Rattle.std.proofs.Common.{[], ap, arith, get_or, length, subst, sym, ℕ, ◌<◌, ◌∙◌, ◌≡◌}
use Rattle.std.proofs.lemmas.List.{get_or-map, length-map}
use Rattle.std.proofs.lemmas.Option.{slice_get-get_or}
use Rattle.sched_base.specs.Bucket.{index}
use Rattle.sched_base.specs.declared.Bucket.{Bucket}
use Rattle.flat_policy.proofs.SetupTimes.{index_below}
use Rattle.flat_policy.specs.Policy.BuiltSetups.{IsCluster, IsGroup, IsSetup}
use Rattle.flat_policy.specs.Policy.Setup.{ClusterParts, SetupParts, cluster_count, cpus_of, group_count, preferred_cluster, rate_of}
use Rattle.flat_policy.specs.Representation.SetupInside.{IsInside, inside_parts, parts_of_size}
use Rattle.flat_policy.specs.declared.setup.ClusterSize.{ClusterSize}
use Rattle.flat_policy.specs.declared.setup.Setup.TheInside.{Inside}

-- the processors and the rate of a cluster
abbrev pub cluster_read : SetupParts → ℕ → ClusterParts
cluster_read s c = record { cpus = cpus_of s c; rate = rate_of s c }

-- they are in their ranges
pub cluster_in_range : (s : SetupParts) (c : ℕ) → IsSetup s → c < cluster_count s → IsCluster (cluster_read s c)
cluster_in_range s c is below =
    let none : ClusterParts = record { cpus = 0; rate = 0 } in
    rw (slice_get-get_or s.clusters c none below) (is.clusters c none below)

-- the preferred cluster of a group is one of the setup's
pub preferred_below : (s : SetupParts) (group : ℕ) (b : Bucket) →
    IsSetup s → group < group_count s → preferred_cluster s group b < cluster_count s
preferred_below s group b is below =
    let row : IsGroup (cluster_count s) (get_or s.groups group []) = is.groups group [] below in
    row.below (index b) 0 (omega (arith, row.six, index_below b))

-- the size of a cluster as its field keeps it
pub size_in_range : (s : Inside) (v : SetupParts) (c : ℕ) (k : ClusterSize) →
    IsInside s → inside_parts s ≡ v → c < cluster_count v → k ≡ get_or s.clusters.items c k → IsCluster (parts_of_size k)
size_in_range s v c k is view below at =
    let counted : cluster_count (inside_parts s) ≡ cluster_count v = ap cluster_count view in
    let here : c < cluster_count (inside_parts s) = omega arith in
    let within : c < length s.clusters.items = omega (arith, length-map s.clusters.items parts_of_size) in
    subst IsCluster
    (get_or-map parts_of_size s.clusters.items c k (parts_of_size k) within ∙ ap parts_of_size (sym at))
    (is.setup.clusters c (parts_of_size k) here)
