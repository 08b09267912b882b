-- The rows of a setup pass the tests of their ranges.
use Rattle.std.proofs.Common.{◌≡◌, ℕ, suc, ◌+◌, ◌<◌, ◌≤◌, List, [], ◌∷◌, AllPairs, Bool, true, false, ◌&&◌, ◌==◌, not, length, map, nat_le, nat_lt, refl, sym, ◌∙◌, ap, arith, le-leb, lt-ltb, ne_eqb, eqb-true, eq-eqb, sum_by}
use Rattle.std.proofs.lemmas.Bool.{and_from}
use Rattle.std.proofs.lemmas.List.{length-map}
use Rattle.std.proofs.lemmas.List.Folds.{fold-map}
use Rattle.std.specs.List.{list_all, list_any}
use Rattle.flat_policy.specs.Policy.BuiltSetups.{IsCluster, IsClusterTimes, IsEdge, IsGroup, IsSetup, IsTimes, OtherEnds}
use Rattle.flat_policy.specs.Policy.Ranges.{all_below, between, clusters_in_range, edges_in_range, ends_differ, groups_in_range, is_cluster_row, is_edge_row, is_times_row, nth, same_ends, threads_in_range, times_in_range}
use Rattle.flat_policy.specs.Policy.Setup.{ClusterParts, SetupParts, cluster_count, times_for}
use Rattle.flat_policy.specs.Texts.SetupLines.{flag_number}
use Rattle.flat_policy.specs.declared.setup.EdgeSpec.{EdgeSpec}
use Rattle.flat_policy.specs.declared.setup.Times.{Times}
use Rattle.sched_base.specs.declared.Bucket.TheVariants.{Ui}
use Rattle.setup_json.proofs.Each.{Each, each_from, each_mapped, each_passes}
use Rattle.setup_json.proofs.Rows.{quanta, row_of_cluster, row_of_edge, rows_of_times, warps, wcels}

pub between_from : (low high n : ℕ) → low ≤ n → n ≤ high → between low high n ≡ true
between_from low high n least most = and_from (nat_le low n) (nat_le n high) (le-leb low n least) (le-leb n high most)

-- ---- clusters

cluster_passes : (k : ClusterParts) → IsCluster k → is_cluster_row (row_of_cluster k) ≡ true
cluster_passes k is =
    and_from (between 1 16 k.cpus) (between 100 1000 k.rate) (between_from 1 16 k.cpus is.cpus_least is.cpus_most) (between_from 100 1000 k.rate is.rate_least is.rate_most)

clusters_pass : (ks : List ClusterParts) → Each IsCluster ks → list_all is_cluster_row (map row_of_cluster ks) ≡ true
clusters_pass ks each =
    each_passes (λ row. is_cluster_row row ≡ true) is_cluster_row (λ row h. h) (map row_of_cluster ks) (each_mapped IsCluster (λ row. is_cluster_row row ≡ true) row_of_cluster cluster_passes ks each)

sum_rows : (ks : List ClusterParts) → sum_by (λ row. nth row 0) (map row_of_cluster ks) ≡ sum_by (λ (k : ClusterParts). k.cpus) ks
sum_rows ks = fold-map (λ (n : ℕ) (row : List ℕ). n + nth row 0) row_of_cluster 0 ks

pub clusters_ranged : (s : SetupParts) → IsSetup s → clusters_in_range (map row_of_cluster s.clusters) ≡ true
clusters_ranged s is =
    let rows = map row_of_cluster s.clusters in
    let count = length-map s.clusters row_of_cluster in
    and_from (between 1 8 (length rows)) (list_all is_cluster_row rows && nat_le (sum_by (λ row. nth row 0) rows) 16)
    (between_from 1 8 (length rows) (omega (arith, count, is.clusters_least)) (omega (arith, count, is.clusters_most)))
    (and_from (list_all is_cluster_row rows) (nat_le (sum_by (λ row. nth row 0) rows) 16)
    (clusters_pass s.clusters (each_from IsCluster s.clusters is.clusters))
    (le-leb (sum_by (λ row. nth row 0) rows) 16 (omega (arith, sum_rows s.clusters, is.actors_most))))

-- ---- edges

flag_passes : (b : Bool) → nat_le (flag_number b) 1 ≡ true
flag_passes true = refl
flag_passes false = refl

edge_passes : (count : ℕ) (e : EdgeSpec) → IsEdge count e → is_edge_row count (row_of_edge e) ≡ true
edge_passes count e is =
    and_from (nat_lt e.from count && nat_lt e.to count) _ (and_from (nat_lt e.from count) (nat_lt e.to count) (lt-ltb e.from count is.from_below) (lt-ltb e.to count is.to_below))
    (and_from (not (e.from == e.to)) _ (ap not (ne_eqb e.from e.to is.unlike))
    (and_from (nat_le e.weight 10000000) _ (le-leb e.weight 10000000 is.weight_most)
    (and_from (nat_le (flag_number e.migrate) 1) (nat_le e.steal 63) (flag_passes e.migrate) (le-leb e.steal 63 (omega (arith, is.mask_below))))))

not_both : (a b : Bool) → (a ≡ true → b ≡ true → ⊥) → (a && b) ≡ false
not_both true true h = absurd (h refl refl)
not_both true false h = refl
not_both false b h = refl

unlike_ends : (e f : EdgeSpec) → OtherEnds e f → same_ends (row_of_edge e) (row_of_edge f) ≡ false
unlike_ends e f other = not_both (e.from == f.from) (e.to == f.to) (λ p q. other (eqb-true e.from f.from p, eqb-true e.to f.to q))

none_alike : (e : EdgeSpec) (es : List EdgeSpec) → Each (OtherEnds e) es → list_any (same_ends (row_of_edge e)) (map row_of_edge es) ≡ false
none_alike e [] each = refl
none_alike e (f ∷ es) each = rw (unlike_ends e f each.0) (none_alike e es each.1)

all_differ : (es : List EdgeSpec) → AllPairs OtherEnds es → ends_differ (map row_of_edge es) ≡ true
all_differ [] pairs = refl
all_differ (e ∷ es) pairs =
    let others : Each (OtherEnds e) es = each_from (OtherEnds e) es (λ k d below. pairs 0 (suc k) d (omega arith) (omega arith)) in
    and_from (not (list_any (same_ends (row_of_edge e)) (map row_of_edge es))) (ends_differ (map row_of_edge es)) (ap not (none_alike e es others))
    (all_differ es (λ i j d less below. pairs (suc i) (suc j) d (omega arith) (omega arith)))

pub edges_ranged : (s : SetupParts) → IsSetup s → edges_in_range (length (map row_of_cluster s.clusters)) (map row_of_edge s.edges) ≡ true
edges_ranged s is =
    let rows = map row_of_edge s.edges in
    rw (length-map s.clusters row_of_cluster)
    (and_from (nat_le (length rows) 56) (list_all (is_edge_row (cluster_count s)) rows && ends_differ rows)
    (le-leb (length rows) 56 (omega (arith, length-map s.edges row_of_edge, is.edges_most)))
    (and_from (list_all (is_edge_row (cluster_count s)) rows) (ends_differ rows)
    (each_passes (λ row. is_edge_row (cluster_count s) row ≡ true) (is_edge_row (cluster_count s)) (λ row h. h) rows
    (each_mapped (IsEdge (cluster_count s)) (λ row. is_edge_row (cluster_count s) row ≡ true) row_of_edge (edge_passes (cluster_count s)) s.edges (each_from (IsEdge (cluster_count s)) s.edges is.edges)))
    (all_differ s.edges is.ends)))

-- ---- groups and threads

group_passes : (count : ℕ) (row : List ℕ) → IsGroup count row → all_below count row ≡ true
group_passes count row is =
    each_passes (λ c. c < count) (λ c. nat_lt c count) (λ c below. lt-ltb c count below) row (each_from (λ c. c < count) row is.below)

pub groups_ranged : (s : SetupParts) → IsSetup s → groups_in_range (length (map row_of_cluster s.clusters)) s.groups ≡ true
groups_ranged s is =
    rw (length-map s.clusters row_of_cluster)
    (and_from (between 1 64 (length s.groups)) (list_all (all_below (cluster_count s)) s.groups)
    (between_from 1 64 (length s.groups) is.groups_least is.groups_most)
    (each_passes (IsGroup (cluster_count s)) (all_below (cluster_count s)) (group_passes (cluster_count s)) s.groups (each_from (IsGroup (cluster_count s)) s.groups is.groups)))

pub threads_ranged : (s : SetupParts) → IsSetup s → threads_in_range s.threads ≡ true
threads_ranged s is = between_from 1 4096 s.threads is.threads_least is.threads_most

-- ---- times

at_most : (most : ℕ) (f : Times → ℕ) (ts : List Times) → ((t : Times) → IsTimes t → f t ≤ most) → Each IsTimes ts → list_all (λ n. nat_le n most) (map f ts) ≡ true
at_most most f ts so each =
    each_passes (λ n. n ≤ most) (λ n. nat_le n most) (λ n h. le-leb n most h) (map f ts) (each_mapped IsTimes (λ n. n ≤ most) f so ts each)

quanta_pass : (ts : List Times) → Each IsTimes ts → list_all (between 1000 100000) (quanta ts) ≡ true
quanta_pass ts each =
    each_passes (λ n. between 1000 100000 n ≡ true) (between 1000 100000) (λ n h. h) (quanta ts)
    (each_mapped IsTimes (λ n. between 1000 100000 n ≡ true) (λ (t : Times). t.quantum) (λ t is. between_from 1000 100000 t.quantum is.quantum_least is.quantum_most) ts each)

-- the first of the times is UI's
first_wcel : (ts : List Times) → length ts ≡ 6 → nth (wcels ts) 0 ≡ (times_for ts Ui).wcel
first_wcel [] six = absurd (omega arith)
first_wcel (t ∷ ts) six = refl

first_warp : (ts : List Times) → length ts ≡ 6 → nth (warps ts) 0 ≡ (times_for ts Ui).warp
first_warp [] six = absurd (omega arith)
first_warp (t ∷ ts) six = refl

times_pass : (ts : List Times) → IsClusterTimes ts → is_times_row (rows_of_times ts) ≡ true
times_pass ts is =
    let each : Each IsTimes ts = each_from IsTimes ts is.each in
    and_from (list_all (λ n. nat_le n 10000000) (wcels ts) && list_all (λ n. nat_le n 1000000) (warps ts)) _
    (and_from (list_all (λ n. nat_le n 10000000) (wcels ts)) (list_all (λ n. nat_le n 1000000) (warps ts))
    (at_most 10000000 (λ (t : Times). t.wcel) ts (λ t is. is.wcel_most) each) (at_most 1000000 (λ (t : Times). t.warp) ts (λ t is. is.warp_most) each))
    (and_from (list_all (between 1000 100000) (quanta ts)) _ (quanta_pass ts each)
    (and_from (nth (wcels ts) 0 == 0) (nth (warps ts) 0 == 0)
    (eq-eqb (nth (wcels ts) 0) 0 (first_wcel ts is.six ∙ is.ui_wcel)) (eq-eqb (nth (warps ts) 0) 0 (first_warp ts is.six ∙ is.ui_warp))))

pub times_ranged : (s : SetupParts) → IsSetup s → times_in_range (length (map row_of_cluster s.clusters)) (map rows_of_times s.times) ≡ true
times_ranged s is =
    let tables = map rows_of_times s.times in
    let count = length (map row_of_cluster s.clusters) in
    and_from (length tables == count) (list_all is_times_row tables)
    (eq-eqb (length tables) count (length-map s.times rows_of_times ∙ is.times_each ∙ sym (length-map s.clusters row_of_cluster)))
    (each_passes (λ rows. is_times_row rows ≡ true) is_times_row (λ rows h. h) tables
    (each_mapped IsClusterTimes (λ rows. is_times_row rows ≡ true) rows_of_times times_pass s.times (each_from IsClusterTimes s.times is.times)))
