-- The rows of numbers that a setup is written as.
use Rattle.std.proofs.Common.{◌≡◌, ℕ, ◌<◌, ◌≤◌, List, [], ◌∷◌, Bool, true, false, ◌==◌, length, map, refl, ◌∙◌, ap, arith}
use Rattle.std.proofs.lemmas.List.{length-map}
use Rattle.flat_policy.specs.Policy.BuiltSetups.{IsCluster, IsClusterTimes, IsEdge, IsGroup, IsTimes}
use Rattle.flat_policy.specs.Policy.Ranges.{cluster_of_row, edge_of_row, times_of_rows}
use Rattle.flat_policy.specs.Policy.Setup.{ClusterParts, numbers_below}
use Rattle.flat_policy.specs.Texts.SetupLines.{flag_number}
use Rattle.flat_policy.specs.declared.setup.EdgeSpec.{EdgeSpec}
use Rattle.flat_policy.specs.declared.setup.Times.{Times}
use Rattle.setup_json.proofs.Arrays.{Small, SmallRow, SmallTable}
use Rattle.setup_json.proofs.Each.{Each, each_from, each_mapped, each_so, mapped_back}

abbrev pub row_of_cluster : ClusterParts → List ℕ
row_of_cluster k = k.cpus ∷ k.rate ∷ []

abbrev pub row_of_edge : EdgeSpec → List ℕ
row_of_edge e = e.from ∷ e.to ∷ e.weight ∷ flag_number e.migrate ∷ e.steal ∷ []

abbrev pub wcels : List Times → List ℕ
wcels ts = map (λ (t : Times). t.wcel) ts

abbrev pub warps : List Times → List ℕ
warps ts = map (λ (t : Times). t.warp) ts

abbrev pub quanta : List Times → List ℕ
quanta ts = map (λ (t : Times). t.quantum) ts

abbrev pub rows_of_times : List Times → List (List ℕ)
rows_of_times ts = wcels ts ∷ warps ts ∷ quanta ts ∷ []

-- ---- the parts that the rows make are those that they were made of

cluster_back : (k : ClusterParts) → IsCluster k → cluster_of_row (row_of_cluster k) ≡ k
cluster_back k is = refl

flag_back : (b : Bool) → (flag_number b == 1) ≡ b
flag_back true = refl
flag_back false = refl

edge_back : (count : ℕ) (e : EdgeSpec) → IsEdge count e → edge_of_row (row_of_edge e) ≡ e
edge_back count e is = ap (λ b. record { from = e.from; to = e.to; weight = e.weight; migrate = b; steal = e.steal }) (flag_back e.migrate)

six_back : (ts : List Times) → length ts ≡ 6 → map (times_of_rows (rows_of_times ts)) (numbers_below 6) ≡ ts
six_back [] six = absurd (omega arith)
six_back (a ∷ []) six = absurd (omega arith)
six_back (a ∷ b ∷ []) six = absurd (omega arith)
six_back (a ∷ b ∷ c ∷ []) six = absurd (omega arith)
six_back (a ∷ b ∷ c ∷ e ∷ []) six = absurd (omega arith)
six_back (a ∷ b ∷ c ∷ e ∷ f ∷ []) six = absurd (omega arith)
six_back (a ∷ b ∷ c ∷ e ∷ f ∷ g ∷ []) six = refl
six_back (a ∷ b ∷ c ∷ e ∷ f ∷ g ∷ i ∷ ts) six = absurd (omega arith)

pub clusters_back : (ks : List ClusterParts) → Each IsCluster ks → map cluster_of_row (map row_of_cluster ks) ≡ ks
clusters_back ks each = mapped_back row_of_cluster cluster_of_row IsCluster cluster_back ks each

pub edges_back : (count : ℕ) (es : List EdgeSpec) → Each (IsEdge count) es → map edge_of_row (map row_of_edge es) ≡ es
edges_back count es each = mapped_back row_of_edge edge_of_row (IsEdge count) (edge_back count) es each

pub times_back : (tss : List (List Times)) → Each IsClusterTimes tss → map (λ rows. map (times_of_rows rows) (numbers_below 6)) (map rows_of_times tss) ≡ tss
times_back tss each = mapped_back rows_of_times (λ rows. map (times_of_rows rows) (numbers_below 6)) IsClusterTimes (λ ts is. six_back ts is.six) tss each

-- ---- the rows have their lengths

abbrev pub OfLength : {A : Type 0} → ℕ → List A → Type 0
OfLength n xs = length xs ≡ n

pub clusters_long : (ks : List ClusterParts) → Each IsCluster ks → Each (OfLength 2) (map row_of_cluster ks)
clusters_long ks each = each_mapped IsCluster (OfLength 2) row_of_cluster (λ k is. refl) ks each

pub edges_long : (count : ℕ) (es : List EdgeSpec) → Each (IsEdge count) es → Each (OfLength 5) (map row_of_edge es)
edges_long count es each = each_mapped (IsEdge count) (OfLength 5) row_of_edge (λ e is. refl) es each

pub groups_long : (count : ℕ) (rows : List (List ℕ)) → Each (IsGroup count) rows → Each (OfLength 6) rows
groups_long count rows each = each_so (IsGroup count) (OfLength 6) (λ row is. is.six) rows each

abbrev pub IsThreeSixes : List (List ℕ) → Type 0
IsThreeSixes rows = OfLength 3 rows × Each (OfLength 6) rows

three_sixes : (ts : List Times) → IsClusterTimes ts → IsThreeSixes (rows_of_times ts)
three_sixes ts is =
    (refl, (length-map ts (λ (t : Times). t.wcel) ∙ is.six, (length-map ts (λ (t : Times). t.warp) ∙ is.six, (length-map ts (λ (t : Times). t.quantum) ∙ is.six, tt))))

pub times_long : (tss : List (List Times)) → Each IsClusterTimes tss → Each IsThreeSixes (map rows_of_times tss)
times_long tss each = each_mapped IsClusterTimes IsThreeSixes rows_of_times three_sixes tss each

-- ---- the numbers are small

pub cluster_small : (k : ClusterParts) → IsCluster k → SmallRow (row_of_cluster k)
cluster_small k is = (omega (arith, is.cpus_most), (omega (arith, is.rate_most), tt))

pub clusters_small : (ks : List ClusterParts) → Each IsCluster ks → SmallTable (map row_of_cluster ks)
clusters_small ks each = each_mapped IsCluster SmallRow row_of_cluster cluster_small ks each

flag_small : (b : Bool) → flag_number b ≤ 1
flag_small true = omega arith
flag_small false = omega arith

pub edge_small : (count : ℕ) (e : EdgeSpec) → count ≤ 8 → IsEdge count e → SmallRow (row_of_edge e)
edge_small count e few is =
    (omega (arith, is.from_below), (omega (arith, is.to_below), (omega (arith, is.weight_most), (omega (arith, flag_small e.migrate), (omega (arith, is.mask_below), tt)))))

pub edges_small : (count : ℕ) (es : List EdgeSpec) → count ≤ 8 → Each (IsEdge count) es → SmallTable (map row_of_edge es)
edges_small count es few each = each_mapped (IsEdge count) SmallRow row_of_edge (λ e is. edge_small count e few is) es each

pub group_small : (count : ℕ) (row : List ℕ) → count ≤ 8 → IsGroup count row → SmallRow row
group_small count row few is =
    each_so (λ c. c < count) Small (λ c below. omega arith) row (each_from (λ c. c < count) row is.below)

pub groups_small : (count : ℕ) (rows : List (List ℕ)) → count ≤ 8 → Each (IsGroup count) rows → SmallTable rows
groups_small count rows few each = each_so (IsGroup count) SmallRow (λ row is. group_small count row few is) rows each

pub times_small : (ts : List Times) → IsClusterTimes ts → SmallTable (rows_of_times ts)
times_small ts is =
    let each : Each IsTimes ts = each_from IsTimes ts is.each in
    let wcels_small = each_mapped IsTimes Small (λ (t : Times). t.wcel) (λ t is. omega (arith, is.wcel_most)) ts each in
    let warps_small = each_mapped IsTimes Small (λ (t : Times). t.warp) (λ t is. omega (arith, is.warp_most)) ts each in
    let quanta_small = each_mapped IsTimes Small (λ (t : Times). t.quantum) (λ t is. omega (arith, is.quantum_most)) ts each in
    (wcels_small, (warps_small, (quanta_small, tt)))

pub all_times_small : (tss : List (List Times)) → Each IsClusterTimes tss → Each SmallTable (map rows_of_times tss)
all_times_small tss each = each_mapped IsClusterTimes SmallTable rows_of_times times_small tss each
