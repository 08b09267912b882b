-- The setup of one cluster is in its ranges.
use Rattle.std.proofs.Common.{refl, arith, lit<, lit≤, inl, ℕ, zero, suc, ◌<◌, List, [], ◌∷◌, All, map}
use Rattle.sched_base.specs.declared.Bucket.{Bucket}
use Rattle.sched_base.specs.declared.Bucket.TheVariants.{Bg, Df, Fg, Ini, Ui, Ut}
use Rattle.flat_policy.specs.Policy.BuiltSetups.{IsCluster, IsClusterTimes, IsEdge, IsGroup, IsSetup, IsTimes}
use Rattle.flat_policy.specs.Policy.Setup.{all_buckets, times_of_version_one}
use Rattle.worked_examples.specs.Rows.Run.{cluster_parts, one_cluster, prefers_always, times_of_version_one_all}

all_nil : {X : Type 0} (P : X → Type 0) → All P []
all_nil P k d h = absurd (omega (arith, h))

all_cons : {X : Type 0} (P : X → Type 0) (x : X) (xs : List X) → P x → All P xs → All P (x ∷ xs)
all_cons P x xs first rest zero d h = first
all_cons P x xs first rest (suc k) d h = rest k d (omega (arith, h))

times_in_range : (b : Bucket) → IsTimes (times_of_version_one b)
times_in_range Ui = record { wcel_most = lit≤ tt; warp_most = lit≤ tt; quantum_least = lit≤ tt; quantum_most = lit≤ tt }
times_in_range Fg = record { wcel_most = lit≤ tt; warp_most = lit≤ tt; quantum_least = lit≤ tt; quantum_most = lit≤ tt }
times_in_range Ini = record { wcel_most = lit≤ tt; warp_most = lit≤ tt; quantum_least = lit≤ tt; quantum_most = lit≤ tt }
times_in_range Df = record { wcel_most = lit≤ tt; warp_most = lit≤ tt; quantum_least = lit≤ tt; quantum_most = lit≤ tt }
times_in_range Ut = record { wcel_most = lit≤ tt; warp_most = lit≤ tt; quantum_least = lit≤ tt; quantum_most = lit≤ tt }
times_in_range Bg = record { wcel_most = lit≤ tt; warp_most = lit≤ tt; quantum_least = lit≤ tt; quantum_most = lit≤ tt }

each_in_range : (bs : List Bucket) → All IsTimes (map times_of_version_one bs)
each_in_range [] = all_nil IsTimes
each_in_range (b ∷ bs) = all_cons IsTimes (times_of_version_one b) (map times_of_version_one bs) (times_in_range b) (each_in_range bs)

cluster_times_in_range : IsClusterTimes times_of_version_one_all
cluster_times_in_range = record { six = refl; each = each_in_range all_buckets; ui_wcel = refl; ui_warp = refl }

abbrev Below : ℕ → Type 0
Below c = c < 1

below_zero : Below 0
below_zero = lit< tt

prefers_below_one : All Below (prefers_always 0)
prefers_below_one = all_cons Below 0 (0 ∷ 0 ∷ 0 ∷ 0 ∷ 0 ∷ []) below_zero (all_cons Below 0 (0 ∷ 0 ∷ 0 ∷ 0 ∷ []) below_zero (all_cons Below 0 (0 ∷ 0 ∷ 0 ∷ []) below_zero (all_cons Below 0 (0 ∷ 0 ∷ []) below_zero (all_cons Below 0 (0 ∷ []) below_zero (all_cons Below 0 [] below_zero (all_nil Below))))))

group_in_range : IsGroup 1 (prefers_always 0)
group_in_range = record { six = refl; below = prefers_below_one }

cluster_in_range : IsCluster (cluster_parts 1 1000)
cluster_in_range = record { cpus_least = lit≤ tt; cpus_most = lit≤ tt; rate_least = lit≤ tt; rate_most = lit≤ tt }

pub one_cluster_is_setup : IsSetup one_cluster
one_cluster_is_setup = record {
  clusters_least = lit≤ tt;
  clusters_most = lit≤ tt;
  clusters = all_cons IsCluster (cluster_parts 1 1000) [] cluster_in_range (all_nil IsCluster);
  actors_least = lit≤ tt;
  actors_most = lit≤ tt;
  edges_most = lit≤ tt;
  edges = all_nil (IsEdge 1);
  ends = λ i j d before within. absurd (omega (arith, within));
  groups_least = lit≤ tt;
  groups_most = lit≤ tt;
  groups = all_cons (IsGroup 1) (prefers_always 0) [] group_in_range (all_nil (IsGroup 1));
  threads_least = lit≤ tt;
  threads_most = lit≤ tt;
  times_each = refl;
  times = all_cons IsClusterTimes times_of_version_one_all [] cluster_times_in_range (all_nil IsClusterTimes);
  version = inl refl;
  ordinary = λ is. refl;
}
