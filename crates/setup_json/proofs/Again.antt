-- The canonical text of a setup is read as that setup.
use Rattle.std.proofs.Common.{◌≡◌, ◌⊎◌, ℕ, List, [], ◌∷◌, true, false, ◌==◌, Option, Some, None, Ok, map, refl, sym, ◌∙◌, ap, inl, inr}
use Rattle.std.proofs.lemmas.Simd.{map-map}
use Rattle.serde_json.specs.Data.{Data}
use Rattle.flat_policy.specs.Policy.BuiltSetups.{IsCluster, IsClusterTimes, IsEdge, IsGroup, IsSetup}
use Rattle.flat_policy.specs.Policy.Ranges.{first_out_of_range, first_out_of_range_timed, parts_of, parts_of_timed}
use Rattle.flat_policy.specs.Policy.Setup.{ClusterParts, SetupParts, all_buckets, cluster_count, times_of_version_one}
use Rattle.flat_policy.specs.Texts.SetupLines.{array_of_length, cons_if, each_item, numbers_of, rows_of, setup_of_json, setup_of_object, times_rows, whole_number}
use Rattle.flat_policy.specs.declared.setup.EdgeSpec.{EdgeSpec}
use Rattle.flat_policy.specs.declared.setup.Times.{Times}
use Rattle.setup_json.proofs.Arrays.{items_of, number_data, row_data, table_data, tables_data}
use Rattle.setup_json.proofs.Each.{Each, each_from}
use Rattle.setup_json.proofs.Items.{right_count}
use Rattle.setup_json.proofs.Passes.{clusters_ranged, edges_ranged, groups_ranged, threads_ranged, times_ranged}
use Rattle.setup_json.proofs.Rows.{IsThreeSixes, OfLength, clusters_back, clusters_long, edges_back, edges_long, groups_long, row_of_cluster, row_of_edge, rows_of_times, times_back, times_long}
use Rattle.setup_json.specs.Laws.{SetupsReadAgain}
use Rattle.setup_json.proofs.Canonical.{Rows, json_of_setup, members_before, members_of, times_then_version, version_member}

-- ---- the numbers of the object

items_read : {A : Type 0} → (of : Data → Option A) (f : A → Data) (P : A → Type 0) → ((x : A) → P x → of (f x) ≡ Some x) → (xs : List A) → Each P xs
    → each_item of (items_of f xs) ≡ Some xs
items_read of f P so [] each = refl
items_read of f P so (x ∷ xs) each =
    ap (λ o. cons_if o (each_item of (items_of f xs))) (so x each.0) ∙ ap (cons_if (Some x)) (items_read of f P so xs each.1)

numbers_read : (row : List ℕ) → each_item whole_number (items_of number_data row) ≡ Some row
numbers_read [] = refl
numbers_read (n ∷ row) = ap (cons_if (Some n)) (numbers_read row)

row_read : (n : ℕ) (row : List ℕ) → OfLength n row → array_of_length n whole_number (row_data row) ≡ Some row
row_read n row long = right_count n (each_item whole_number (items_of number_data row)) row (numbers_read row) long

table_read : (n : ℕ) (rows : Rows) → Each (OfLength n) rows → rows_of n (table_data rows) ≡ Some rows
table_read n rows each = items_read (array_of_length n whole_number) row_data (OfLength n) (row_read n) rows each

three_read : (rows : Rows) → IsThreeSixes rows → array_of_length 3 (array_of_length 6 whole_number) (table_data rows) ≡ Some rows
three_read rows is = right_count 3 (each_item (array_of_length 6 whole_number) (items_of row_data rows)) rows (table_read 6 rows is.1) is.0

tables_read : (tables : List Rows) → Each IsThreeSixes tables → times_rows (tables_data tables) ≡ Some tables
tables_read tables each = items_read (array_of_length 3 (array_of_length 6 whole_number)) table_data IsThreeSixes three_read tables each

plain_numbers : (clusters edges groups : Rows) (threads version : ℕ) → (version == 2) ≡ false → Each (OfLength 2) clusters → Each (OfLength 5) edges → Each (OfLength 6) groups
    → numbers_of (members_before clusters edges groups threads (version_member version))
    ≡ Ok (record { clusters = clusters; edges = edges; groups = groups; threads = threads; times = None; version = version })
plain_numbers clusters edges groups threads version other c e g =
    rw (table_read 2 clusters c, table_read 5 edges e, table_read 6 groups g, other) refl

timed_numbers : (clusters edges groups : Rows) (threads : ℕ) (times : List Rows) (version : ℕ) → (version == 2) ≡ true
    → Each (OfLength 2) clusters → Each (OfLength 5) edges → Each (OfLength 6) groups → Each IsThreeSixes times
    → numbers_of (members_before clusters edges groups threads (times_then_version times version))
    ≡ Ok (record { clusters = clusters; edges = edges; groups = groups; threads = threads; times = Some times; version = version })
timed_numbers clusters edges groups threads times version this c e g t =
    rw (table_read 2 clusters c, table_read 5 edges e, table_read 6 groups g, tables_read times t, this) refl

-- ---- the setup of the numbers

none_out : (s : SetupParts) → IsSetup s → s.version ≡ 1 → first_out_of_range (map row_of_cluster s.clusters) (map row_of_edge s.edges) s.groups s.threads s.version ≡ None
none_out s is one =
    rw (clusters_ranged s is, edges_ranged s is, groups_ranged s is, threads_ranged s is, one) refl

none_out_timed : (s : SetupParts) → IsSetup s
    → first_out_of_range_timed (map row_of_cluster s.clusters) (map row_of_edge s.edges) s.groups s.threads (map rows_of_times s.times) ≡ None
none_out_timed s is =
    rw (clusters_ranged s is, edges_ranged s is, groups_ranged s is, threads_ranged s is, times_ranged s is) refl

same_parts : (clusters clusters' : List ClusterParts) (edges edges' : List EdgeSpec) (groups : Rows) (threads : ℕ) (times times' : List (List Times)) (version version' : ℕ)
    → clusters ≡ clusters' → edges ≡ edges' → times ≡ times' → version ≡ version'
    → ◌≡◌ {A = SetupParts}
    record { clusters = clusters; edges = edges; groups = groups; threads = threads; times = times; version = version }
    record { clusters = clusters'; edges = edges'; groups = groups; threads = threads; times = times'; version = version' }
same_parts clusters clusters' edges edges' groups threads times times' version version' c e t v = rw (c, e, t, v) refl

one_back : (s : SetupParts) → IsSetup s → s.version ≡ 1 → parts_of (map row_of_cluster s.clusters) (map row_of_edge s.edges) s.groups s.threads ≡ s
one_back s is one =
    same_parts _ s.clusters _ s.edges s.groups s.threads _ s.times 1 s.version
    (clusters_back s.clusters (each_from IsCluster s.clusters is.clusters)) (edges_back (cluster_count s) s.edges (each_from (IsEdge (cluster_count s)) s.edges is.edges))
    (map-map (λ _. map times_of_version_one all_buckets) row_of_cluster s.clusters ∙ sym (is.ordinary one)) (sym one)

two_back : (s : SetupParts) → IsSetup s → s.version ≡ 2 → parts_of_timed (map row_of_cluster s.clusters) (map row_of_edge s.edges) s.groups s.threads (map rows_of_times s.times) ≡ s
two_back s is two =
    same_parts _ s.clusters _ s.edges s.groups s.threads _ s.times 2 s.version
    (clusters_back s.clusters (each_from IsCluster s.clusters is.clusters)) (edges_back (cluster_count s) s.edges (each_from (IsEdge (cluster_count s)) s.edges is.edges))
    (times_back s.times (each_from IsClusterTimes s.times is.times)) (sym two)

abbrev RowsLong : SetupParts → Type 0
RowsLong s =
    Each (OfLength 2) (map row_of_cluster s.clusters) × Each (OfLength 5) (map row_of_edge s.edges) × Each (OfLength 6) s.groups

rows_long : (s : SetupParts) → IsSetup s → RowsLong s
rows_long s is = (
  clusters_long s.clusters (each_from IsCluster s.clusters is.clusters),
  edges_long (cluster_count s) s.edges (each_from (IsEdge (cluster_count s)) s.edges is.edges),
  groups_long (cluster_count s) s.groups (each_from (IsGroup (cluster_count s)) s.groups is.groups),
)

read_one : (s : SetupParts) → IsSetup s → s.version ≡ 1 → setup_of_object (members_of s) ≡ Ok s
read_one s is one =
    let long = rows_long s is in
    let other : (s.version == 2) ≡ false = ap (λ n. n == 2) one in
    rw (other, plain_numbers (map row_of_cluster s.clusters) (map row_of_edge s.edges) s.groups s.threads s.version other long.0 long.1 long.2, none_out s is one, one_back s is one) refl

read_two : (s : SetupParts) → IsSetup s → s.version ≡ 2 → setup_of_object (members_of s) ≡ Ok s
read_two s is two =
    let long = rows_long s is in
    let times = times_long s.times (each_from IsClusterTimes s.times is.times) in
    let this : (s.version == 2) ≡ true = ap (λ n. n == 2) two in
    rw (this, timed_numbers (map row_of_cluster s.clusters) (map row_of_edge s.edges) s.groups s.threads (map rows_of_times s.times) s.version this long.0 long.1 long.2 times, none_out_timed s is, two_back s is two) refl

read_either : (s : SetupParts) → IsSetup s → (s.version ≡ 1) ⊎ (s.version ≡ 2) → setup_of_object (members_of s) ≡ Ok s
read_either s is (inl one) = read_one s is one
read_either s is (inr two) = read_two s is two

pub setups_again : SetupsReadAgain
setups_again = λ s is. ap setup_of_json (json_of_setup s is) ∙ read_either s is is.version
