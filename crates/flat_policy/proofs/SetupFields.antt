-- What the tests of a setup's fields say.
use Rattle.std.proofs.Common.{Bool, List, None, [], arith, false, get_or, length, not, refl, suc, sum_by, true, zero, ℕ, ◌&&◌, ◌<◌, ◌∷◌, ◌≡◌, ◌≢◌, ◌≤◌}
use Rattle.std.specs.Prelude.{◌==◌, nat_le, nat_lt}
use Rattle.std.specs.List.{list_all}
use Rattle.std.proofs.lemmas.Bool.{eq-eqb, leb-true, ltb-true}
use Rattle.std.proofs.lemmas.List.Sums.{sum_by-cons}
use Rattle.flat_policy.specs.Policy.BuiltSetups.{IsCluster, IsEdge}
use Rattle.flat_policy.specs.Policy.Ranges.{Ranged, all_below, between, cluster_of_row, clusters_in_range, common_ranges, edge_of_row, edges_in_range, ends_differ, first_out, groups_in_range, is_cluster_row, is_edge_row, nth, ranged, threads_in_range}
use Rattle.flat_policy.specs.declared.setup.Field.{Field}
use Rattle.flat_policy.specs.declared.setup.Field.TheVariants as fields

-- two tests that both hold
pub both : (a b : Bool) → (a && b) ≡ true → (a ≡ true) × (b ≡ true)
both true b h = (refl, h)
both false b h = absurd (cc)

-- a number between two others
pub between_true : (low high n : ℕ) → between low high n ≡ true → (low ≤ n) × (n ≤ high)
between_true low high n h = let p = both (nat_le low n) (nat_le n high) h in (leb-true low n p.0, leb-true n high p.1)

-- a test that holds of all holds of each
pub list_all_true : {X : Type 0} (p : X → Bool) (xs : List X) (k : ℕ) (d : X) →
    list_all p xs ≡ true → k < length xs → p (get_or xs k d) ≡ true
list_all_true p [] k d h below = absurd (omega arith)
list_all_true p (x ∷ xs) zero d h below = (both (p x) (list_all p xs) h).0
list_all_true p (x ∷ xs) (suc k) d h below = list_all_true p xs k d (both (p x) (list_all p xs) h).1 (omega arith)

-- where none of four fields is out, each is in range
pub none_out : (p q r s : Field) (a b c d : Bool) →
    first_out (ranged p a ∷ ranged q b ∷ ranged r c ∷ ranged s d ∷ []) ≡ None → (a ≡ true) × (b ≡ true) × (c ≡ true) × (d ≡ true)
none_out p q r s true true true true h = (refl, refl, refl, refl)
none_out p q r s false b c d h = absurd (cc)
none_out p q r s true false c d h = absurd (cc)
none_out p q r s true true false d h = absurd (cc)
none_out p q r s true true true false h = absurd (cc)

-- where no field is out, the first is in range
pub head_in : (f : Field) (b : Bool) (rs : List Ranged) → first_out (ranged f b ∷ rs) ≡ None → b ≡ true
head_in f true rs h = refl
head_in f false rs h = absurd (cc)

-- the fields that both versions have are in range
pub record InRange (clusters edges groups : List (List ℕ)) (threads : ℕ) : Type 0 where
  pub clusters_pass : clusters_in_range clusters ≡ true
  pub edges_pass : edges_in_range (length clusters) edges ≡ true
  pub groups_pass : groups_in_range (length clusters) groups ≡ true
  pub threads_pass : threads_in_range threads ≡ true

pub in_range : (clusters edges groups : List (List ℕ)) (threads : ℕ) →
    first_out (common_ranges clusters edges groups threads) ≡ None → InRange clusters edges groups threads
in_range clusters edges groups threads h =
    let all = none_out fields.Clusters fields.Edges fields.Groups fields.Threads
    (clusters_in_range clusters) (edges_in_range (length clusters) edges) (groups_in_range (length clusters) groups)
    (threads_in_range threads) h in
    record { clusters_pass = all.0; edges_pass = all.1; groups_pass = all.2; threads_pass = all.3 }

-- a row of a cluster
pub cluster_row : (row : List ℕ) → is_cluster_row row ≡ true → IsCluster (cluster_of_row row)
cluster_row row h =
    let p = both (between 1 16 (nth row 0)) (between 100 1000 (nth row 1)) h in
    let cpus = between_true 1 16 (nth row 0) p.0 in
    let rate = between_true 100 1000 (nth row 1) p.1 in
    record { cpus_least = cpus.0; cpus_most = cpus.1; rate_least = rate.0; rate_most = rate.1 }

-- two numbers that a test tells apart
pub not_eq : (x y : ℕ) → not (x == y) ≡ true → x ≢ y
not_eq x y h e = cc (eq-eqb x y e)

-- a row of an edge
pub edge_row : (count : ℕ) (row : List ℕ) → is_edge_row count row ≡ true → IsEdge count (edge_of_row row)
edge_row count row h =
    let p = both (nat_lt (nth row 0) count && nat_lt (nth row 1) count)
    (not (nth row 0 == nth row 1) && (nat_le (nth row 2) 10000000 && (nat_le (nth row 3) 1 && nat_le (nth row 4) 63))) h in
    let ends = both (nat_lt (nth row 0) count) (nat_lt (nth row 1) count) p.0 in
    let q = both (not (nth row 0 == nth row 1)) (nat_le (nth row 2) 10000000 && (nat_le (nth row 3) 1 && nat_le (nth row 4) 63)) p.1 in
    let r = both (nat_le (nth row 2) 10000000) (nat_le (nth row 3) 1 && nat_le (nth row 4) 63) q.1 in
    let s = both (nat_le (nth row 3) 1) (nat_le (nth row 4) 63) r.1 in
    let mask = leb-true (nth row 4) 63 s.1 in
    record {
      from_below = ltb-true (nth row 0) count ends.0;
      to_below = ltb-true (nth row 1) count ends.1;
      unlike = not_eq (nth row 0) (nth row 1) q.0;
      weight_most = leb-true (nth row 2) 10000000 r.0;
      mask_below = omega (arith, mask);
    }

-- the clusters
pub record ClustersPass (clusters : List (List ℕ)) : Type 0 where
  pub least : 1 ≤ length clusters
  pub most : length clusters ≤ 8
  pub each : list_all is_cluster_row clusters ≡ true
  pub actors_least : 1 ≤ sum_by (λ row. nth row 0) clusters
  pub actors_most : sum_by (λ row. nth row 0) clusters ≤ 16

some_actor : (clusters : List (List ℕ)) → 1 ≤ length clusters → list_all is_cluster_row clusters ≡ true →
    1 ≤ sum_by (λ row. nth row 0) clusters
some_actor [] least each = absurd (omega arith)
some_actor (row ∷ rows) least each =
    let first = cluster_row row (both (is_cluster_row row) (list_all is_cluster_row rows) each).0 in
    omega (arith, first.cpus_least, sum_by-cons (λ (r : List ℕ). nth r 0) row rows)

pub clusters_pass : (clusters : List (List ℕ)) → clusters_in_range clusters ≡ true → ClustersPass clusters
clusters_pass clusters h =
    let actors = sum_by (λ row. nth row 0) clusters in
    let p = both (between 1 8 (length clusters)) (list_all is_cluster_row clusters && nat_le actors 16) h in
    let q = both (list_all is_cluster_row clusters) (nat_le actors 16) p.1 in
    let count = between_true 1 8 (length clusters) p.0 in
    record {
      least = count.0;
      most = count.1;
      each = q.0;
      actors_least = some_actor clusters count.0 q.0;
      actors_most = leb-true actors 16 q.1;
    }

-- the edges
pub record EdgesPass (count : ℕ) (edges : List (List ℕ)) : Type 0 where
  pub most : length edges ≤ 56
  pub each : list_all (is_edge_row count) edges ≡ true
  pub ends : ends_differ edges ≡ true

pub edges_pass : (count : ℕ) (edges : List (List ℕ)) → edges_in_range count edges ≡ true → EdgesPass count edges
edges_pass count edges h =
    let p = both (nat_le (length edges) 56) (list_all (is_edge_row count) edges && ends_differ edges) h in
    let q = both (list_all (is_edge_row count) edges) (ends_differ edges) p.1 in
    record { most = leb-true (length edges) 56 p.0; each = q.0; ends = q.1 }

-- the groups
pub record GroupsPass (count : ℕ) (groups : List (List ℕ)) : Type 0 where
  pub least : 1 ≤ length groups
  pub most : length groups ≤ 64
  pub each : list_all (all_below count) groups ≡ true

pub groups_pass : (count : ℕ) (groups : List (List ℕ)) → groups_in_range count groups ≡ true → GroupsPass count groups
groups_pass count groups h =
    let p = both (between 1 64 (length groups)) (list_all (all_below count) groups) h in
    let size = between_true 1 64 (length groups) p.0 in
    record { least = size.0; most = size.1; each = p.1 }
