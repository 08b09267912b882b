-- Rows of times in range.
use Rattle.std.proofs.Common.{List, [], arith, get_or, length, map, refl, suc, true, zero, ℕ, ◌<◌, ◌∷◌, ◌≡◌}
use Rattle.std.specs.Prelude.{All, nat_le, ◌==◌, ◌&&◌}
use Rattle.std.specs.List.{list_all}
use Rattle.std.proofs.lemmas.Bool.{eqb-true, leb-true}
use Rattle.flat_policy.proofs.SetupFields.{between_true, both, list_all_true}
use Rattle.flat_policy.proofs.SetupRows.{all_map}
use Rattle.flat_policy.specs.Policy.BuiltSetups.{IsClusterTimes, IsTimes}
use Rattle.flat_policy.specs.Policy.Ranges.{between, is_times_row, nth, row_of_times, times_of_rows}
use Rattle.flat_policy.specs.Representation.RowParts.{ordinary_rows}
use Rattle.flat_policy.specs.Policy.Setup.{all_buckets, numbers_below, times_of_version_one}
use Rattle.flat_policy.specs.Representation.SetupInside.{HasSixes, times_of_cluster}

-- the numbers below six
number_small : (k : ℕ) → get_or (0 ∷ 1 ∷ 2 ∷ 3 ∷ 4 ∷ 5 ∷ []) k 0 < 6
number_small zero = omega arith
number_small (suc zero) = omega arith
number_small (suc (suc zero)) = omega arith
number_small (suc (suc (suc zero))) = omega arith
number_small (suc (suc (suc (suc zero)))) = omega arith
number_small (suc (suc (suc (suc (suc zero))))) = omega arith
number_small (suc (suc (suc (suc (suc (suc k)))))) = omega arith

-- what the test of a cluster's times says
pub record TimesPass (rows : List (List ℕ)) : Type 0 where
  pub wcel : list_all (λ n. nat_le n 10000000) (row_of_times rows 0) ≡ true
  pub warp : list_all (λ n. nat_le n 1000000) (row_of_times rows 1) ≡ true
  pub quantum : list_all (between 1000 100000) (row_of_times rows 2) ≡ true
  pub ui_wcel : nth (row_of_times rows 0) 0 ≡ 0
  pub ui_warp : nth (row_of_times rows 1) 0 ≡ 0

pub times_pass : (rows : List (List ℕ)) → is_times_row rows ≡ true → TimesPass rows
times_pass rows h =
    let wcel = list_all (λ n. nat_le n 10000000) (row_of_times rows 0) in
    let warp = list_all (λ n. nat_le n 1000000) (row_of_times rows 1) in
    let quantum = list_all (between 1000 100000) (row_of_times rows 2) in
    let ui_wcel = nth (row_of_times rows 0) 0 == 0 in
    let ui_warp = nth (row_of_times rows 1) 0 == 0 in
    let p = both (wcel && warp) (quantum && (ui_wcel && ui_warp)) h in
    let q = both wcel warp p.0 in
    let r = both quantum (ui_wcel && ui_warp) p.1 in
    let s = both ui_wcel ui_warp r.1 in
    record {
      wcel = q.0;
      warp = q.1;
      quantum = r.0;
      ui_wcel = eqb-true (nth (row_of_times rows 0) 0) 0 s.0;
      ui_warp = eqb-true (nth (row_of_times rows 1) 0) 0 s.1;
    }

-- the times of a bucket index
times_at : (rows : List (List ℕ)) (n : ℕ) → TimesPass rows → length rows ≡ 3 → HasSixes rows → n < 6 → IsTimes (times_of_rows rows n)
times_at rows n pass three sixes small =
    let wcels = row_of_times rows 0 in
    let warps = row_of_times rows 1 in
    let quanta = row_of_times rows 2 in
    let quantum = between_true 1000 100000 (nth quanta n)
    (list_all_true (between 1000 100000) quanta n 0 pass.quantum (omega (arith, sixes 2 [] (omega arith)))) in
    record {
      wcel_most = leb-true (nth wcels n) 10000000
          (list_all_true (λ x. nat_le x 10000000) wcels n 0 pass.wcel (omega (arith, sixes 0 [] (omega arith))));
      warp_most = leb-true (nth warps n) 1000000
          (list_all_true (λ x. nat_le x 1000000) warps n 0 pass.warp (omega (arith, sixes 1 [] (omega arith))));
      quantum_least = quantum.0;
      quantum_most = quantum.1;
    }

-- the times of a cluster
pub cluster_times_pass : (rows : List (List ℕ)) → is_times_row rows ≡ true → length rows ≡ 3 → HasSixes rows →
    IsClusterTimes (times_of_cluster rows)
cluster_times_pass rows h three sixes =
    let pass = times_pass rows h in
    record {
      six = refl;
      each = all_map IsTimes (times_of_rows rows) (numbers_below 6) 0
          (λ k below. times_at rows (get_or (numbers_below 6) k 0) pass three sixes (number_small k));
      ui_wcel = pass.ui_wcel;
      ui_warp = pass.ui_warp;
    }

-- those of version 1 are the same for each cluster
pub ordinary_times : {X : Type 0} (times : List (List (List ℕ))) (clusters : List X) →
    All (λ rows. rows ≡ ordinary_rows) times → length times ≡ length clusters →
    map times_of_cluster times ≡ map (λ _. map times_of_version_one all_buckets) clusters
ordinary_times [] [] all same = refl
ordinary_times [] (c ∷ cs) all same = absurd (omega arith)
ordinary_times (rows ∷ times) [] all same = absurd (omega arith)
ordinary_times (rows ∷ times) (c ∷ cs) all same =
    let first : rows ≡ ordinary_rows = all 0 [] (omega arith) in
    let rest = ordinary_times times cs (λ k d below. all (suc k) d (omega arith)) (omega arith) in
    rw (first, rest) refl
