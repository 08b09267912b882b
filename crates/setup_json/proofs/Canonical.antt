-- The object that a setup is written as: its text, and that this text is read as it.
use Rattle.std.proofs.Common.{◌≡◌, ◌⊎◌, ℕ, ◌≤◌, List, [], ◌++◌, Bool, true, false, cond, ◌==◌, Some, IsUtf8, codes, map, decimal, refl, sym, ◌∙◌, ap, append_assoc, inl, inr, arith}
use Rattle.std.proofs.lemmas.Simd.{map-map}
use Rattle.json.proofs.Printed.Utf8.{IsUtf8-are_ascii}
use Rattle.json.specs.Print.{escape_byte}
use Rattle.serde_json.specs.Data.{Data, Members, member, no_members, object}
use Rattle.serde_json.specs.Written.{compact_text, members_text}
use Rattle.flat_policy.specs.Policy.BuiltSetups.{IsCluster, IsClusterTimes, IsEdge, IsGroup, IsSetup}
use Rattle.flat_policy.specs.Policy.Setup.{SetupParts, cluster_count}
use Rattle.flat_policy.specs.Texts.SetupLines.{bracketed, cluster_text, cluster_times_text, edge_text, json_of, numbers_text, setup_text, times_member}
use Rattle.flat_policy.specs.declared.setup.Times.{Times}
use Rattle.setup_json.proofs.Arrays.{IsAgain, SmallTable, number_again, number_data, rows_text, table_again, table_data, table_text, tables_again, tables_data, tables_text}
use Rattle.setup_json.proofs.Each.{Each, each_from}
use Rattle.setup_json.proofs.Objects.{MembersAgain, json_again, member_again, none_again, object_again, put_all}
use Rattle.setup_json.proofs.Rows.{all_times_small, clusters_small, edges_small, groups_small, row_of_cluster, row_of_edge, rows_of_times}

-- ---- the object of a setup of each version

abbrev pub Rows : Type 0
Rows = List (List ℕ)

abbrev pub version_member : ℕ → Members
version_member version = member (codes "version") (number_data version) no_members

abbrev pub times_then_version : List Rows → ℕ → Members
times_then_version times version = member (codes "times") (tables_data times) (version_member version)

abbrev pub members_before : Rows → Rows → Rows → ℕ → Members → Members
members_before clusters edges groups threads rest =
    member (codes "clusters") (table_data clusters)
    (member (codes "edges") (table_data edges)
    (member (codes "groups") (table_data groups)
    (member (codes "threads") (number_data threads) rest)))

abbrev pub last_members : SetupParts → Members
last_members s = cond (s.version == 2) (times_then_version (map rows_of_times s.times) s.version) (version_member s.version)

abbrev pub members_of : SetupParts → Members
members_of s = members_before (map row_of_cluster s.clusters) (map row_of_edge s.edges) s.groups s.threads (last_members s)

-- ---- its text

times_written : (times : List (List Times)) → compact_text (tables_data (map rows_of_times times)) ≡ bracketed (map cluster_times_text times)
times_written times = tables_text (map rows_of_times times) ∙ ap bracketed (map-map rows_text rows_of_times times)

abbrev version_text : ℕ → List ℕ
version_text version = codes ",\"version\":" ++ (decimal version ++ codes "}")

last_written : (two : Bool) (times : List (List Times)) (version : ℕ)
    → members_text true (cond two (times_then_version (map rows_of_times times) version) (version_member version))
    ≡ cond two (codes ",\"times\":" ++ bracketed (map cluster_times_text times)) [] ++ version_text version
unfolding escape_byte
last_written true times version =
    ap (λ (t : List ℕ). codes ",\"times\":" ++ (t ++ version_text version)) (times_written times)
    ∙ sym (append_assoc (codes ",\"times\":") (bracketed (map cluster_times_text times)) (version_text version))
last_written false times version = refl

-- a text in its twelve pieces
abbrev joined : List ℕ → List ℕ → List ℕ → List ℕ → List ℕ → List ℕ
joined clusters edges groups threads last =
    codes "{\"clusters\":" ++ (clusters ++ (codes ",\"edges\":" ++ (edges ++ (codes ",\"groups\":" ++ (groups ++ (codes ",\"threads\":" ++ (threads ++ last)))))))

text_joined : (clusters edges groups : Rows) (threads : ℕ) (rest : Members)
    → compact_text (object (members_before clusters edges groups threads rest))
    ≡ joined (compact_text (table_data clusters)) (compact_text (table_data edges)) (compact_text (table_data groups)) (decimal threads) (members_text true rest)
unfolding escape_byte
text_joined clusters edges groups threads rest = refl

regrouped : (a b c d e f g h i j k l : List ℕ) → a ++ (b ++ (c ++ (d ++ (e ++ (f ++ (g ++ (h ++ (i ++ (j ++ (k ++ l)))))))))) ≡ a ++ b ++ c ++ d ++ e ++ f ++ g ++ h ++ i ++ j ++ k ++ l
regrouped a b c d e f g h i j k l = simp append_assoc refl

setup_joined : (s : SetupParts)
    → joined (bracketed (map cluster_text s.clusters)) (bracketed (map edge_text s.edges)) (bracketed (map numbers_text s.groups)) (decimal s.threads) (times_member s ++ version_text s.version) ≡ setup_text s
setup_joined s =
    regrouped (codes "{\"clusters\":") (bracketed (map cluster_text s.clusters)) (codes ",\"edges\":") (bracketed (map edge_text s.edges)) (codes ",\"groups\":") (bracketed (map numbers_text s.groups))
    (codes ",\"threads\":") (decimal s.threads) (times_member s) (codes ",\"version\":") (decimal s.version) (codes "}")

rows_written : {A : Type 0} → (row_of : A → List ℕ) (xs : List A) → compact_text (table_data (map row_of xs)) ≡ bracketed (map (λ x. numbers_text (row_of x)) xs)
rows_written row_of xs = table_text (map row_of xs) ∙ ap bracketed (map-map numbers_text row_of xs)

text_of_setup : (s : SetupParts) → compact_text (object (members_of s)) ≡ setup_text s
text_of_setup s =
    let edges = compact_text (table_data (map row_of_edge s.edges)) in
    let groups = compact_text (table_data s.groups) in
    let last = members_text true (last_members s) in
    text_joined (map row_of_cluster s.clusters) (map row_of_edge s.edges) s.groups s.threads (last_members s)
    ∙ ap (λ (c : List ℕ). joined c edges groups (decimal s.threads) last) (rows_written row_of_cluster s.clusters)
    ∙ ap (λ (e : List ℕ). joined (bracketed (map cluster_text s.clusters)) e groups (decimal s.threads) last) (rows_written row_of_edge s.edges)
    ∙ ap (λ (g : List ℕ). joined (bracketed (map cluster_text s.clusters)) (bracketed (map edge_text s.edges)) g (decimal s.threads) last) (table_text s.groups)
    ∙ ap (λ (l : List ℕ). joined (bracketed (map cluster_text s.clusters)) (bracketed (map edge_text s.edges)) (bracketed (map numbers_text s.groups)) (decimal s.threads) l) (last_written (s.version == 2) s.times s.version)
    ∙ setup_joined s

-- ---- it is read as this object

clusters_key : IsUtf8 (codes "clusters")
clusters_key = IsUtf8-are_ascii (codes "clusters") refl

edges_key : IsUtf8 (codes "edges")
edges_key = IsUtf8-are_ascii (codes "edges") refl

groups_key : IsUtf8 (codes "groups")
groups_key = IsUtf8-are_ascii (codes "groups") refl

threads_key : IsUtf8 (codes "threads")
threads_key = IsUtf8-are_ascii (codes "threads") refl

times_key : IsUtf8 (codes "times")
times_key = IsUtf8-are_ascii (codes "times") refl

version_key : IsUtf8 (codes "version")
version_key = IsUtf8-are_ascii (codes "version") refl

deeper : (m n : ℕ) (d : Data) → m ≤ n → IsAgain m d → IsAgain n d
deeper m n d le again = record { read = again.read; numbers = again.numbers; shallow = omega (arith, again.shallow); text = again.text }

version_again : (version : ℕ) → version ≤ 2 → MembersAgain 3 (version_member version)
version_again version few =
    member_again 3 (codes "version") (number_data version) no_members version_key (deeper 0 3 (number_data version) (omega arith) (number_again version (omega arith))) (none_again 3)

last_again : (two : Bool) (times : List Rows) (version : ℕ) → version ≤ 2 → Each SmallTable times → MembersAgain 3 (cond two (times_then_version times version) (version_member version))
last_again true times version few small = member_again 3 (codes "times") (tables_data times) (version_member version) times_key (tables_again times small) (version_again version few)
last_again false times version few small = version_again version few

before_again : (clusters edges groups : Rows) (threads : ℕ) (rest : Members) → SmallTable clusters → SmallTable edges → SmallTable groups → threads ≤ 4096 → MembersAgain 3 rest
    → MembersAgain 3 (members_before clusters edges groups threads rest)
before_again clusters edges groups threads rest c e g t again =
    let behind_groups = member (codes "threads") (number_data threads) rest in
    let behind_edges = member (codes "groups") (table_data groups) behind_groups in
    let behind_clusters = member (codes "edges") (table_data edges) behind_edges in
    member_again 3 (codes "clusters") (table_data clusters) behind_clusters clusters_key (deeper 2 3 (table_data clusters) (omega arith) (table_again clusters c))
    (member_again 3 (codes "edges") (table_data edges) behind_edges edges_key (deeper 2 3 (table_data edges) (omega arith) (table_again edges e))
    (member_again 3 (codes "groups") (table_data groups) behind_groups groups_key (deeper 2 3 (table_data groups) (omega arith) (table_again groups g))
    (member_again 3 (codes "threads") (number_data threads) rest threads_key (deeper 0 3 (number_data threads) (omega arith) (number_again threads (omega arith))) again)))

-- the members stand in the order of their keys
in_order : (two : Bool) (clusters edges groups : Rows) (threads : ℕ) (times : List Rows) (version : ℕ)
    → let ms = members_before clusters edges groups threads (cond two (times_then_version times version) (version_member version)) in put_all ms no_members ≡ ms
in_order true clusters edges groups threads times version = refl
in_order false clusters edges groups threads times version = refl

pub version_most : (s : SetupParts) → (s.version ≡ 1) ⊎ (s.version ≡ 2) → s.version ≤ 2
version_most s (inl one) = omega arith
version_most s (inr two) = omega arith

members_again : (s : SetupParts) → IsSetup s → MembersAgain 3 (members_of s)
members_again s is =
    before_again (map row_of_cluster s.clusters) (map row_of_edge s.edges) s.groups s.threads (last_members s)
    (clusters_small s.clusters (each_from IsCluster s.clusters is.clusters))
    (edges_small (cluster_count s) s.edges is.clusters_most (each_from (IsEdge (cluster_count s)) s.edges is.edges))
    (groups_small (cluster_count s) s.groups is.clusters_most (each_from (IsGroup (cluster_count s)) s.groups is.groups))
    is.threads_most
    (last_again (s.version == 2) (map rows_of_times s.times) s.version (version_most s is.version) (all_times_small s.times (each_from IsClusterTimes s.times is.times)))

pub json_of_setup : (s : SetupParts) → IsSetup s → json_of (setup_text s) ≡ Some (object (members_of s))
json_of_setup s is =
    let order = in_order (s.version == 2) (map row_of_cluster s.clusters) (map row_of_edge s.edges) s.groups s.threads (map rows_of_times s.times) s.version in
    ap json_of (sym (text_of_setup s)) ∙ json_again (object (members_of s)) 4 (object_again 3 (members_of s) order (members_again s is)) (omega arith)
