-- Rows that pass the tests of their ranges make the parts of a setup.
use Rattle.std.proofs.Common.{◌≡◌, ◌≢◌, ℕ, zero, suc, ◌+◌, ◌<◌, ◌≤◌, List, [], ◌∷◌, All, AllPairs, Bool, true, false, ◌&&◌, ◌||◌, ◌==◌, not, None, get_or, length, map, nat_le, nat_lt, refl, arith, eq-eqb, eqb-true, sum_by}
use Rattle.std.proofs.lemmas.Bool.{and_parts, leb-true, ltb-true}
use Rattle.std.proofs.lemmas.List.{get_or-map, length-map}
use Rattle.std.proofs.lemmas.List.Folds.{fold-map}
use Rattle.std.proofs.lemmas.List.Sums.{sum_by-cons}
use Rattle.std.specs.List.{list_all, list_any}
use Rattle.flat_policy.specs.Policy.BuiltSetups.{IsCluster, IsClusterTimes, IsEdge, IsGroup, IsTimes, OtherEnds}
use Rattle.flat_policy.specs.Policy.Ranges.{all_below, between, cluster_of_row, clusters_in_range, edge_of_row, edges_in_range, ends_differ, first_out, groups_in_range, is_cluster_row, is_edge_row, is_times_row, nth, ranged, row_of_times, same_ends, times_of_rows}
use Rattle.flat_policy.specs.Policy.Setup.{ClusterParts, all_buckets, numbers_below, times_of_version_one}
use Rattle.flat_policy.specs.declared.setup.Field.{Field}
use Rattle.sched_base.specs.declared.Bucket.{Bucket}
use Rattle.sched_base.specs.declared.Bucket.TheVariants.{Bg, Df, Fg, Ini, Ui, Ut}
use Rattle.setup_json.proofs.Each.{Each, each_mapped}
use Rattle.setup_json.proofs.Rows.{IsThreeSixes, OfLength}

-- ---- tests that hold

between_true : (low high n : ℕ) → between low high n ≡ true → (low ≤ n) × (n ≤ high)
between_true low high n h = let p = and_parts (nat_le low n) (nat_le n high) h in (leb-true low n p.0, leb-true n high p.1)

pub each_true : {A : Type 0} → (p : A → Bool) (xs : List A) → list_all p xs ≡ true → Each (λ x. p x ≡ true) xs
each_true p [] h = tt
each_true p (x ∷ xs) h = let q = and_parts (p x) (list_all p xs) h in (q.0, each_true p xs q.1)

pub all_of : {A : Type 0} → (P : A → Type 0) (xs : List A) → Each P xs → All P xs
all_of P [] each k d below = absurd (omega arith)
all_of P (x ∷ xs) each zero d below = each.0
all_of P (x ∷ xs) each (suc k) d below = all_of P xs each.1 k d (omega arith)

-- one test of each that holds makes another property of each
all_made : {A B : Type 0} → (p : A → Bool) (P : B → Type 0) (f : A → B) → ((x : A) → p x ≡ true → P (f x)) → (xs : List A) → list_all p xs ≡ true → All P (map f xs)
all_made p P f so xs h = all_of P (map f xs) (each_mapped (λ x. p x ≡ true) P f so xs (each_true p xs h))

-- where none of five fields is out, each is in range
pub record FiveIn (a b c d e : Bool) : Type 0 where
  pub first : a ≡ true
  pub second : b ≡ true
  pub third : c ≡ true
  pub fourth : d ≡ true
  pub fifth : e ≡ true

pub none_out : (p q r s t : Field) (a b c d e : Bool) → first_out (ranged p a ∷ ranged q b ∷ ranged r c ∷ ranged s d ∷ ranged t e ∷ []) ≡ None → FiveIn a b c d e
none_out p q r s t true true true true true h = record { first = refl; second = refl; third = refl; fourth = refl; fifth = refl }
none_out p q r s t false b c d e h = absurd cc
none_out p q r s t true false c d e h = absurd cc
none_out p q r s t true true false d e h = absurd cc
none_out p q r s t true true true false e h = absurd cc
none_out p q r s t true true true true false h = absurd cc

-- ---- clusters

cluster_row : (row : List ℕ) → is_cluster_row row ≡ true → IsCluster (cluster_of_row row)
cluster_row row h =
    let p = and_parts (between 1 16 (nth row 0)) (between 100 1000 (nth row 1)) h in
    let cpus = between_true 1 16 (nth row 0) p.0 in
    let rate = between_true 100 1000 (nth row 1) p.1 in
    record { cpus_least = cpus.0; cpus_most = cpus.1; rate_least = rate.0; rate_most = rate.1 }

pub record ClustersIn (rows : List (List ℕ)) : Type 0 where
  pub least : 1 ≤ length rows
  pub most : length rows ≤ 8
  pub each : All IsCluster (map cluster_of_row rows)
  pub actors_least : 1 ≤ sum_by (λ (k : ClusterParts). k.cpus) (map cluster_of_row rows)
  pub actors_most : sum_by (λ (k : ClusterParts). k.cpus) (map cluster_of_row rows) ≤ 16

some_actor : (rows : List (List ℕ)) → 1 ≤ length rows → list_all is_cluster_row rows ≡ true → 1 ≤ sum_by (λ row. nth row 0) rows
some_actor [] least each = absurd (omega arith)
some_actor (row ∷ rows) least each =
    let first = cluster_row row (and_parts (is_cluster_row row) (list_all is_cluster_row rows) each).0 in
    omega (arith, first.cpus_least, sum_by-cons (λ (r : List ℕ). nth r 0) row rows)

sum_cpus : (rows : List (List ℕ)) → sum_by (λ (k : ClusterParts). k.cpus) (map cluster_of_row rows) ≡ sum_by (λ row. nth row 0) rows
sum_cpus rows = fold-map (λ (n : ℕ) (k : ClusterParts). n + k.cpus) cluster_of_row 0 rows

pub clusters_in : (rows : List (List ℕ)) → clusters_in_range rows ≡ true → ClustersIn rows
clusters_in rows h =
    let actors = sum_by (λ row. nth row 0) rows in
    let p = and_parts (between 1 8 (length rows)) (list_all is_cluster_row rows && nat_le actors 16) h in
    let q = and_parts (list_all is_cluster_row rows) (nat_le actors 16) p.1 in
    let count = between_true 1 8 (length rows) p.0 in
    record {
      least = count.0;
      most = count.1;
      each = all_made is_cluster_row IsCluster cluster_of_row cluster_row rows q.0;
      actors_least = omega (arith, sum_cpus rows, some_actor rows count.0 q.0);
      actors_most = omega (arith, sum_cpus rows, leb-true actors 16 q.1);
    }

-- ---- edges

not_eq : (x y : ℕ) → not (x == y) ≡ true → x ≢ y
not_eq x y h e = cc (eq-eqb x y e)

edge_row : (count : ℕ) (row : List ℕ) → is_edge_row count row ≡ true → IsEdge count (edge_of_row row)
edge_row count row h =
    let p = and_parts (nat_lt (nth row 0) count && nat_lt (nth row 1) count)
    (not (nth row 0 == nth row 1) && (nat_le (nth row 2) 10000000 && (nat_le (nth row 3) 1 && nat_le (nth row 4) 63))) h in
    let ends = and_parts (nat_lt (nth row 0) count) (nat_lt (nth row 1) count) p.0 in
    let q = and_parts (not (nth row 0 == nth row 1)) (nat_le (nth row 2) 10000000 && (nat_le (nth row 3) 1 && nat_le (nth row 4) 63)) p.1 in
    let r = and_parts (nat_le (nth row 2) 10000000) (nat_le (nth row 3) 1 && nat_le (nth row 4) 63) q.1 in
    let s = and_parts (nat_le (nth row 3) 1) (nat_le (nth row 4) 63) r.1 in
    let mask = leb-true (nth row 4) 63 s.1 in
    record {
      from_below = ltb-true (nth row 0) count ends.0;
      to_below = ltb-true (nth row 1) count ends.1;
      unlike = not_eq (nth row 0) (nth row 1) q.0;
      weight_most = leb-true (nth row 2) 10000000 r.0;
      mask_below = omega (arith, mask);
    }

none_of : {A : Type 0} → (p : A → Bool) (b : Bool) (xs : List A) → not (b || list_any p xs) ≡ true → (b ≡ false) × (not (list_any p xs) ≡ true)
none_of p true xs h = absurd cc
none_of p false xs h = (refl, h)

each_false : {A : Type 0} → (p : A → Bool) (xs : List A) (k : ℕ) (d : A) → not (list_any p xs) ≡ true → k < length xs → p (get_or xs k d) ≡ false
each_false p [] k d h below = absurd (omega arith)
each_false p (x ∷ xs) zero d h below = (none_of p (p x) xs h).0
each_false p (x ∷ xs) (suc k) d h below = each_false p xs k d (none_of p (p x) xs h).1 (omega arith)

ends_apart : (rows : List (List ℕ)) (i j : ℕ) (d : List ℕ) → ends_differ rows ≡ true → i < j → j < length rows → same_ends (get_or rows i d) (get_or rows j d) ≡ false
ends_apart [] i j d h less below = absurd (omega arith)
ends_apart (row ∷ rows) i zero d h less below = absurd (omega arith)
ends_apart (row ∷ rows) zero (suc j) d h less below =
    each_false (same_ends row) rows j d (and_parts (not (list_any (same_ends row) rows)) (ends_differ rows) h).0 (omega arith)
ends_apart (row ∷ rows) (suc i) (suc j) d h less below =
    ends_apart rows i j d (and_parts (not (list_any (same_ends row) rows)) (ends_differ rows) h).1 (omega arith) (omega arith)

other_ends : (x y : List ℕ) → same_ends x y ≡ false → OtherEnds (edge_of_row x) (edge_of_row y)
other_ends x y h same = cc (eq-eqb (nth x 0) (nth y 0) same.0, eq-eqb (nth x 1) (nth y 1) same.1)

all_ends : (rows : List (List ℕ)) → ends_differ rows ≡ true → AllPairs OtherEnds (map edge_of_row rows)
all_ends rows h i j d less below =
    let within : j < length rows = omega (arith, length-map rows edge_of_row) in
    let before : i < length rows = omega arith in
    rw (get_or-map edge_of_row rows i [] d before, get_or-map edge_of_row rows j [] d within)
    (other_ends (get_or rows i []) (get_or rows j []) (ends_apart rows i j [] h less within))

pub record EdgesIn (count : ℕ) (rows : List (List ℕ)) : Type 0 where
  pub most : length rows ≤ 56
  pub each : All (IsEdge count) (map edge_of_row rows)
  pub ends : AllPairs OtherEnds (map edge_of_row rows)

pub edges_in : (count : ℕ) (rows : List (List ℕ)) → edges_in_range count rows ≡ true → EdgesIn count rows
edges_in count rows h =
    let p = and_parts (nat_le (length rows) 56) (list_all (is_edge_row count) rows && ends_differ rows) h in
    let q = and_parts (list_all (is_edge_row count) rows) (ends_differ rows) p.1 in
    record { most = leb-true (length rows) 56 p.0; each = all_made (is_edge_row count) (IsEdge count) edge_of_row (edge_row count) rows q.0; ends = all_ends rows q.1 }

-- ---- groups

group_row : (count : ℕ) (row : List ℕ) → length row ≡ 6 → all_below count row ≡ true → IsGroup count row
group_row count row six h = record {
  six = six;
  below = λ k d within. ltb-true (get_or row k d) count (all_of (λ c. nat_lt c count ≡ true) row (each_true (λ c. nat_lt c count) row h) k d within);
}

each_group : (count : ℕ) (rows : List (List ℕ)) → Each (OfLength 6) rows → list_all (all_below count) rows ≡ true → Each (IsGroup count) rows
each_group count [] sixes h = tt
each_group count (row ∷ rows) sixes h =
    let p = and_parts (all_below count row) (list_all (all_below count) rows) h in
    (group_row count row sixes.0 p.0, each_group count rows sixes.1 p.1)

pub record GroupsIn (count : ℕ) (rows : List (List ℕ)) : Type 0 where
  pub least : 1 ≤ length rows
  pub most : length rows ≤ 64
  pub each : All (IsGroup count) rows

pub groups_in : (count : ℕ) (rows : List (List ℕ)) → Each (OfLength 6) rows → groups_in_range count rows ≡ true → GroupsIn count rows
groups_in count rows sixes h =
    let p = and_parts (between 1 64 (length rows)) (list_all (all_below count) rows) h in
    let size = between_true 1 64 (length rows) p.0 in
    record { least = size.0; most = size.1; each = all_of (IsGroup count) rows (each_group count rows sixes p.1) }

pub threads_in : (n : ℕ) → between 1 4096 n ≡ true → (1 ≤ n) × (n ≤ 4096)
threads_in n h = between_true 1 4096 n h

-- ---- times

at_place : (p : ℕ → Bool) (xs : List ℕ) (n : ℕ) → list_all p xs ≡ true → n < length xs → p (nth xs n) ≡ true
at_place p xs n h below = all_of (λ x. p x ≡ true) xs (each_true p xs h) n 0 below

times_at : (rows : List (List ℕ)) (n : ℕ) → n < 6 → length (row_of_times rows 0) ≡ 6 → length (row_of_times rows 1) ≡ 6 → length (row_of_times rows 2) ≡ 6
    → list_all (λ k. nat_le k 10000000) (row_of_times rows 0) ≡ true → list_all (λ k. nat_le k 1000000) (row_of_times rows 1) ≡ true → list_all (between 1000 100000) (row_of_times rows 2) ≡ true
    → IsTimes (times_of_rows rows n)
times_at rows n small wcels warps quanta wcel warp quantum =
    let q = between_true 1000 100000 (nth (row_of_times rows 2) n) (at_place (between 1000 100000) (row_of_times rows 2) n quantum (omega (arith, small, quanta))) in
    record {
      wcel_most = leb-true (nth (row_of_times rows 0) n) 10000000 (at_place (λ k. nat_le k 10000000) (row_of_times rows 0) n wcel (omega (arith, small, wcels)));
      warp_most = leb-true (nth (row_of_times rows 1) n) 1000000 (at_place (λ k. nat_le k 1000000) (row_of_times rows 1) n warp (omega (arith, small, warps)));
      quantum_least = q.0;
      quantum_most = q.1;
    }

cluster_times : (rows : List (List ℕ)) → IsThreeSixes rows → is_times_row rows ≡ true → IsClusterTimes (map (times_of_rows rows) (numbers_below 6))
cluster_times [] sixes h = absurd (omega (arith, sixes.0))
cluster_times (a ∷ []) sixes h = absurd (omega (arith, sixes.0))
cluster_times (a ∷ b ∷ []) sixes h = absurd (omega (arith, sixes.0))
cluster_times (a ∷ b ∷ c ∷ e ∷ rest) sixes h = absurd (omega (arith, sixes.0))
cluster_times (a ∷ b ∷ c ∷ []) sixes h =
    let wcel = list_all (λ n. nat_le n 10000000) a in
    let warp = list_all (λ n. nat_le n 1000000) b in
    let quantum = list_all (between 1000 100000) c in
    let p = and_parts (wcel && warp) (quantum && ((nth a 0 == 0) && (nth b 0 == 0))) h in
    let q = and_parts wcel warp p.0 in
    let r = and_parts quantum ((nth a 0 == 0) && (nth b 0 == 0)) p.1 in
    let s = and_parts (nth a 0 == 0) (nth b 0 == 0) r.1 in
    let at : (n : ℕ) → n < 6 → IsTimes (times_of_rows (a ∷ b ∷ c ∷ []) n) =
    λ n small. times_at (a ∷ b ∷ c ∷ []) n small sixes.1.0 sixes.1.1.0 sixes.1.1.1.0 q.0 q.1 r.0 in
    record {
      six = refl;
      each = all_of IsTimes (map (times_of_rows (a ∷ b ∷ c ∷ [])) (numbers_below 6))
          (at 0 (omega arith), (at 1 (omega arith), (at 2 (omega arith), (at 3 (omega arith), (at 4 (omega arith), (at 5 (omega arith), tt))))));
      ui_wcel = eqb-true (nth a 0) 0 s.0;
      ui_warp = eqb-true (nth b 0) 0 s.1;
    }

pub each_times : (tables : List (List (List ℕ))) → Each IsThreeSixes tables → list_all is_times_row tables ≡ true → Each IsClusterTimes (map (λ rows. map (times_of_rows rows) (numbers_below 6)) tables)
each_times [] sixes h = tt
each_times (rows ∷ tables) sixes h =
    let p = and_parts (is_times_row rows) (list_all is_times_row tables) h in
    (cluster_times rows sixes.0 p.0, each_times tables sixes.1 p.1)

-- those of version 1
each_bucket : (b : Bucket) → IsTimes (times_of_version_one b)
each_bucket Ui = record { wcel_most = omega arith; warp_most = omega arith; quantum_least = omega arith; quantum_most = omega arith }
each_bucket Fg = record { wcel_most = omega arith; warp_most = omega arith; quantum_least = omega arith; quantum_most = omega arith }
each_bucket Ini = record { wcel_most = omega arith; warp_most = omega arith; quantum_least = omega arith; quantum_most = omega arith }
each_bucket Df = record { wcel_most = omega arith; warp_most = omega arith; quantum_least = omega arith; quantum_most = omega arith }
each_bucket Ut = record { wcel_most = omega arith; warp_most = omega arith; quantum_least = omega arith; quantum_most = omega arith }
each_bucket Bg = record { wcel_most = omega arith; warp_most = omega arith; quantum_least = omega arith; quantum_most = omega arith }

ordinary_times : IsClusterTimes (map times_of_version_one all_buckets)
ordinary_times = record {
  six = refl;
  each = all_of IsTimes (map times_of_version_one all_buckets) (each_bucket Ui, (each_bucket Fg, (each_bucket Ini, (each_bucket Df, (each_bucket Ut, (each_bucket Bg, tt))))));
  ui_wcel = refl;
  ui_warp = refl;
}

pub each_ordinary : {A : Type 0} → (xs : List A) → Each IsClusterTimes (map (λ _. map times_of_version_one all_buckets) xs)
each_ordinary [] = tt
each_ordinary (x ∷ xs) = (ordinary_times, each_ordinary xs)
