-- Rows in range make lists in range.
use Rattle.std.proofs.Common.{List, [], arith, get_or, length, map, sum_by, true, ℕ, ◌+◌, ◌<◌, ◌≡◌}
use Rattle.std.specs.Prelude.{All, nat_lt}
use Rattle.std.specs.List.{list_all}
use Rattle.std.proofs.lemmas.Bool.{ltb-true}
use Rattle.std.proofs.lemmas.List.Folds.{fold-map}
use Rattle.std.proofs.lemmas.List.{get_or-map, get_or_default, length-map}
use Rattle.flat_policy.proofs.SetupFields.{cluster_row, edge_row, list_all_true}
use Rattle.flat_policy.specs.Policy.BuiltSetups.{IsCluster, IsEdge, IsGroup}
use Rattle.flat_policy.specs.Policy.Ranges.{all_below, cluster_of_row, edge_of_row, is_cluster_row, is_edge_row, nth}
use Rattle.flat_policy.specs.Policy.Setup.{ClusterParts}
use Rattle.flat_policy.specs.Representation.SetupInside.{HasSixes}

-- lists of one length, for every default
pub lengths_for_all : {X : Type 0} (xss : List (List X)) (n : ℕ) →
    ((i : ℕ) → i < length xss → length (get_or xss i []) ≡ n) → All (λ xs. length xs ≡ n) xss
lengths_for_all xss n told k d below = rw (get_or_default xss k d [] below) (told k below)

-- a property of the images of all rows
pub all_map : {X Y : Type 0} (P : Y → Type 0) (f : X → Y) (xs : List X) (e : X) →
    ((k : ℕ) → k < length xs → P (f (get_or xs k e))) → All P (map f xs)
all_map P f xs e each k d below =
    let within : k < length xs = omega (arith, length-map xs f) in
    rw (get_or-map f xs k e d within) (each k within)

-- the clusters are in their ranges
pub all_clusters : (rows : List (List ℕ)) → list_all is_cluster_row rows ≡ true → All IsCluster (map cluster_of_row rows)
all_clusters rows h =
    all_map IsCluster cluster_of_row rows [] (λ k below. cluster_row (get_or rows k []) (list_all_true is_cluster_row rows k [] h below))

-- the edges are
pub all_edges : (count : ℕ) (rows : List (List ℕ)) →
    list_all (is_edge_row count) rows ≡ true → All (IsEdge count) (map edge_of_row rows)
all_edges count rows h =
    all_map (IsEdge count) edge_of_row rows []
    (λ k below. edge_row count (get_or rows k []) (list_all_true (is_edge_row count) rows k [] h below))

-- the groups are, where each has six numbers
pub all_groups : (count : ℕ) (rows : List (List ℕ)) → HasSixes rows →
    list_all (all_below count) rows ≡ true → All (IsGroup count) rows
all_groups count rows sixes h k d below = record {
  six = sixes k d below;
  below = λ j e within.
      ltb-true (get_or (get_or rows k d) j e) count
      (list_all_true (λ x. nat_lt x count) (get_or rows k d) j e (list_all_true (all_below count) rows k d h below) within);
}

-- the sum of the processors
pub sum_cpus : (rows : List (List ℕ)) → sum_by (λ (k : ClusterParts). k.cpus) (map cluster_of_row rows) ≡ sum_by (λ row. nth row 0) rows
sum_cpus rows = fold-map (λ (n : ℕ) (k : ClusterParts). n + k.cpus) cluster_of_row 0 rows
