-- The canonical text of a setup stands in a line.
use Rattle.std.proofs.Common.{ℕ, suc, ◌+◌, ◌*◌, ◌≤◌, List, [], ◌++◌, Bool, true, false, cond, ◌==◌, codes, length, map, refl, ◌∙◌, ap, append_assoc, arith, le-ltb}
use Rattle.std.proofs.lemmas.List.{length-map}
use Rattle.flat_policy.specs.Policy.BuiltSetups.{IsCluster, IsClusterTimes, IsEdge, IsGroup, IsSetup}
use Rattle.flat_policy.specs.Policy.Setup.{ClusterParts, SetupParts, cluster_count}
use Rattle.flat_policy.specs.Texts.Lines.{newline}
use Rattle.flat_policy.specs.Texts.SetupLines.{bracketed, cluster_text, cluster_times_text, edge_text, numbers_text, setup_text, times_member}
use Rattle.flat_policy.specs.Texts.Streams.{setup_limit, text_lines}
use Rattle.flat_policy.specs.declared.setup.EdgeSpec.{EdgeSpec}
use Rattle.flat_policy.specs.declared.setup.Times.{Times}
use Rattle.setup_json.proofs.Again.{setups_again}
use Rattle.setup_json.proofs.Arrays.{SmallTable}
use Rattle.setup_json.proofs.Canonical.{version_most}
use Rattle.setup_json.proofs.Each.{Each, each_from, each_mapped}
use Rattle.setup_json.proofs.InLine.{InLine, appended, bracketed_in_line, is_first_line, keyed, longer, number_in_line, row_in_line}
use Rattle.setup_json.proofs.Rows.{edge_small, cluster_small, group_small, row_of_cluster, row_of_edge, rows_of_times, times_small}
use Rattle.setup_json.specs.Laws.{SetupLinesReadAgain, SetupsStandInLines}

-- ---- each part in its line

cluster_in_line : (k : ClusterParts) → IsCluster k → InLine 20 (cluster_text k)
cluster_in_line k is = row_in_line 2 (row_of_cluster k) (omega arith) (cluster_small k is)

edge_in_line : (count : ℕ) (e : EdgeSpec) → count ≤ 8 → IsEdge count e → InLine 47 (edge_text e)
edge_in_line count e few is = row_in_line 5 (row_of_edge e) (omega arith) (edge_small count e few is)

group_in_line : (count : ℕ) (row : List ℕ) → count ≤ 8 → IsGroup count row → InLine 56 (numbers_text row)
group_in_line count row few is = row_in_line 6 row (omega (arith, is.six)) (group_small count row few is)

times_in_line : (ts : List Times) → IsClusterTimes ts → InLine 173 (cluster_times_text ts)
times_in_line ts is =
    let small : SmallTable (rows_of_times ts) = times_small ts is in
    let wcels = row_in_line 6 (map (λ (t : Times). t.wcel) ts) (omega (arith, length-map ts (λ (t : Times). t.wcel), is.six)) small.0 in
    let warps = row_in_line 6 (map (λ (t : Times). t.warp) ts) (omega (arith, length-map ts (λ (t : Times). t.warp), is.six)) small.1.0 in
    let quanta = row_in_line 6 (map (λ (t : Times). t.quantum) ts) (omega (arith, length-map ts (λ (t : Times). t.quantum), is.six)) small.1.1.0 in
    bracketed_in_line 56 3 (map numbers_text (rows_of_times ts)) (omega arith) (wcels, (warps, (quanta, tt)))

-- a list of parts in its line
list_in_line : {A : Type 0} → (text_of : A → List ℕ) (P : A → Type 0) (m n : ℕ) (xs : List A) → ((x : A) → P x → InLine m (text_of x)) → length xs ≤ n → Each P xs
    → InLine (n * suc m + 2) (bracketed (map text_of xs))
list_in_line text_of P m n xs so few each =
    bracketed_in_line m n (map text_of xs) (omega (arith, length-map xs text_of)) (each_mapped P (InLine m) text_of so xs each)

clusters_in_line : (s : SetupParts) → IsSetup s → InLine 170 (bracketed (map cluster_text s.clusters))
clusters_in_line s is = list_in_line cluster_text IsCluster 20 8 s.clusters cluster_in_line is.clusters_most (each_from IsCluster s.clusters is.clusters)

edges_in_line : (s : SetupParts) → IsSetup s → InLine 2690 (bracketed (map edge_text s.edges))
edges_in_line s is =
    list_in_line edge_text (IsEdge (cluster_count s)) 47 56 s.edges (λ e edge. edge_in_line (cluster_count s) e is.clusters_most edge) is.edges_most
    (each_from (IsEdge (cluster_count s)) s.edges is.edges)

groups_in_line : (s : SetupParts) → IsSetup s → InLine 3650 (bracketed (map numbers_text s.groups))
groups_in_line s is =
    list_in_line numbers_text (IsGroup (cluster_count s)) 56 64 s.groups (λ row group. group_in_line (cluster_count s) row is.clusters_most group) is.groups_most
    (each_from (IsGroup (cluster_count s)) s.groups is.groups)

all_times_in_line : (s : SetupParts) → IsSetup s → InLine 1394 (bracketed (map cluster_times_text s.times))
all_times_in_line s is =
    list_in_line cluster_times_text IsClusterTimes 173 8 s.times times_in_line (omega (arith, is.times_each, is.clusters_most)) (each_from IsClusterTimes s.times is.times)

either_in_line : (b : Bool) (m : ℕ) (t : List ℕ) → InLine m t → InLine m (cond b t [])
either_in_line true m t line = line
either_in_line false m t line = record { plain = refl; short = omega arith }

times_member_in_line : (s : SetupParts) → IsSetup s → InLine 1403 (times_member s)
times_member_in_line s is =
    either_in_line (s.version == 2) 1403 (codes ",\"times\":" ++ bracketed (map cluster_times_text s.times))
    (keyed 0 9 1394 [] (codes ",\"times\":") _ (record { plain = refl; short = omega arith }) refl (omega arith) (all_times_in_line s is))

-- ---- the whole text

setup_in_line : (s : SetupParts) → IsSetup s → InLine 65536 (setup_text s)
setup_in_line s is =
    let clusters = keyed 0 12 170 [] (codes "{\"clusters\":") _ (record { plain = refl; short = omega arith }) refl (omega arith) (clusters_in_line s is) in
    let edges = keyed 182 9 2690 _ (codes ",\"edges\":") _ clusters refl (omega arith) (edges_in_line s is) in
    let groups = keyed 2881 10 3650 _ (codes ",\"groups\":") _ edges refl (omega arith) (groups_in_line s is) in
    let threads = keyed 6541 11 8 _ (codes ",\"threads\":") _ groups refl (omega arith) (number_in_line s.threads (omega (arith, is.threads_most))) in
    let times = appended 6560 1403 _ _ threads (times_member_in_line s is) in
    let version = keyed 7963 11 8 _ (codes ",\"version\":") _ times refl (omega arith) (number_in_line s.version (omega (arith, version_most s is.version))) in
    longer 7983 65536 (setup_text s) (omega arith) (appended 7982 1 _ (codes "}") version (record { plain = refl; short = omega arith }))

pub setups_in_lines : SetupsStandInLines
setups_in_lines = λ s more is.
    let line : InLine 65536 (setup_text s) = setup_in_line s is in
    ap text_lines (append_assoc (setup_text s) newline more) ∙ is_first_line (setup_text s) more line.plain

pub lines_again : SetupLinesReadAgain
lines_again = λ s is.
    let line : InLine 65536 (setup_text s) = setup_in_line s is in
    rw (le-ltb setup_limit (length (setup_text s)) line.short) (setups_again s is)
