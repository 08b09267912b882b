-- Rows in range make a setup.
use Rattle.std.proofs.Common.{List, None, [], arith, get_or, inl, inr, length, map, sym, true, ℕ, ◌∙◌, ◌≡◌, ◌⊎◌}
use Rattle.std.specs.Prelude.{All, ◌==◌}
use Rattle.std.specs.List.{list_all}
use Rattle.std.proofs.lemmas.Bool.{eqb-true}
use Rattle.std.proofs.lemmas.List.{length-map}
use Rattle.flat_policy.proofs.SetupEdges.{all_ends}
use Rattle.flat_policy.proofs.SetupFields.{between_true, both, clusters_pass, edge_row, edges_pass, groups_pass, in_range, list_all_true}
use Rattle.flat_policy.proofs.SetupRows.{all_clusters, all_edges, all_groups, all_map, sum_cpus}
use Rattle.flat_policy.proofs.SetupTimeRows.{cluster_times_pass, ordinary_times}
use Rattle.flat_policy.specs.Policy.BuiltSetups.{IsClusterTimes, IsSetup}
use Rattle.flat_policy.specs.Policy.Ranges.{cluster_of_row, common_ranges, edge_of_row, first_out, is_edge_row, is_times_row, times_in_range}
use Rattle.flat_policy.specs.Representation.RowParts.{IsVersion, parts_of_rows}
use Rattle.flat_policy.specs.Policy.Setup.{all_buckets, times_of_version_one}
use Rattle.flat_policy.specs.Representation.SetupInside.{FitsEdge, HasSixes, times_of_cluster}

-- one of the two versions
which : (version : ℕ) (times : List (List (List ℕ))) → IsVersion version times → (version ≡ 1) ⊎ (version ≡ 2)
which version times (inl one) = inl one.0
which version times (inr two) = inr two

-- version 1 has its own times
ordinary : (clusters : List (List ℕ)) (times : List (List (List ℕ))) (version : ℕ) →
    IsVersion version times → length times ≡ length clusters → version ≡ 1 →
    map times_of_cluster times ≡ map (λ _. map times_of_version_one all_buckets) (map cluster_of_row clusters)
ordinary clusters times version (inl one) same is =
    ordinary_times times (map cluster_of_row clusters) one.1 (omega (arith, length-map clusters cluster_of_row))
ordinary clusters times version (inr two) same is = absurd (omega arith)

-- rows in range make a setup
pub is_setup : (clusters edges groups : List (List ℕ)) (threads : ℕ) (times : List (List (List ℕ))) (version : ℕ) →
    first_out (common_ranges clusters edges groups threads) ≡ None →
    times_in_range (length clusters) times ≡ true →
    IsVersion version times → HasSixes groups → All (λ rows. length rows ≡ 3) times → All HasSixes times →
    IsSetup (parts_of_rows clusters edges groups threads times version)
is_setup clusters edges groups threads times version common timed versioned sixes threes rows =
    let fields = in_range clusters edges groups threads common in
    let k = clusters_pass clusters fields.clusters_pass in
    let e = edges_pass (length clusters) edges fields.edges_pass in
    let g = groups_pass (length clusters) groups fields.groups_pass in
    let n = between_true 1 4096 threads fields.threads_pass in
    let t = both (length times == length clusters) (list_all is_times_row times) timed in
    let same = eqb-true (length times) (length clusters) t.0 in
    let count = length-map clusters cluster_of_row in
    record {
      clusters_least = omega (arith, count, k.least);
      clusters_most = omega (arith, count, k.most);
      clusters = all_clusters clusters k.each;
      actors_least = omega (arith, sum_cpus clusters, k.actors_least);
      actors_most = omega (arith, sum_cpus clusters, k.actors_most);
      edges_most = omega (arith, length-map edges edge_of_row, e.most);
      edges = rw count (all_edges (length clusters) edges e.each);
      ends = all_ends edges e.ends;
      groups_least = g.least;
      groups_most = g.most;
      groups = rw count (all_groups (length clusters) groups sixes g.each);
      threads_least = n.0;
      threads_most = n.1;
      times_each = length-map times times_of_cluster ∙ same ∙ sym count;
      times = all_map IsClusterTimes times_of_cluster times []
          (λ c below. cluster_times_pass (get_or times c []) (list_all_true is_times_row times c [] t.1 below) (threes c [] below) (rows c [] below));
      version = which version times versioned;
      ordinary = ordinary clusters times version versioned same;
    }

-- the numbers of edges in range fit their fields
pub edges_fit : (clusters edges groups : List (List ℕ)) (threads : ℕ) →
    first_out (common_ranges clusters edges groups threads) ≡ None → All FitsEdge edges
edges_fit clusters edges groups threads common k d below =
    let fields = in_range clusters edges groups threads common in
    let count = clusters_pass clusters fields.clusters_pass in
    let pass = edges_pass (length clusters) edges fields.edges_pass in
    let e = edge_row (length clusters) (get_or edges k d) (list_all_true (is_edge_row (length clusters)) edges k d pass.each below) in
    (omega (arith, e.from_below, count.most), omega (arith, e.to_below, count.most), omega (arith, e.weight_most), omega (arith, e.mask_below))

-- there are as many times as clusters
pub times_counted : (clusters : List (List ℕ)) (times : List (List (List ℕ))) →
    times_in_range (length clusters) times ≡ true → length times ≡ length clusters
times_counted clusters times timed =
    eqb-true (length times) (length clusters) (both (length times == length clusters) (list_all is_times_row times) timed).0
