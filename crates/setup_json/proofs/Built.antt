-- What a setup line is read as has all its parts in their ranges.
use Rattle.std.proofs.Common.{◌≡◌, ℕ, List, Option, Some, None, Result, Ok, Err, IfOk, IfSome, Bool, true, false, ◌==◌, codes, cond, length, map, option_and_then, refl, sym, ◌∙◌, subst, arith, inl, inr, eqb-true}
use Rattle.std.proofs.lemmas.Bool.{and_parts}
use Rattle.std.proofs.lemmas.List.{length-map}
use Rattle.std.proofs.lemmas.Simd.{map-map}
use Rattle.std.specs.List.{list_all}
use Rattle.flat_policy.specs.Policy.BuiltSetups.{IsClusterTimes, IsSetup}
use Rattle.flat_policy.specs.Policy.Ranges.{cluster_of_row, clusters_in_range, edge_of_row, edges_in_range, first_out_of_range, first_out_of_range_timed, groups_in_range, is_times_row, parts_of, parts_of_timed, threads_in_range, times_in_range, times_of_rows}
use Rattle.flat_policy.specs.Policy.Setup.{SetupParts, all_buckets, numbers_below, times_of_version_one}
use Rattle.flat_policy.specs.Texts.SetupLines.{SetupNumbers, array_of, array_of_length, cons_if, each_item, field_of, in_range, is_version_two, json_of, numbers_of, only_keys, read_setup_text, rows_of, setup_of, setup_of_json, setup_of_members, setup_of_object, shaped, times_field, times_of_other, times_rows, unless_fault, whole_number, with_length}
use Rattle.flat_policy.specs.declared.setup.Field.{Field}
use Rattle.flat_policy.specs.declared.texts.SetupFault.{SetupFault}
use Rattle.serde_json.specs.Data.{Data, Items, Members, item, no_items}
use Rattle.serde_json.specs.Find.{as_array, as_object, get_member}
use Rattle.setup_json.proofs.Each.{Each}
use Rattle.setup_json.proofs.InRange.{all_of, clusters_in, each_ordinary, each_times, edges_in, groups_in, none_out, threads_in}
use Rattle.setup_json.proofs.Rows.{IsThreeSixes, OfLength}
use Rattle.setup_json.specs.Laws.{ReadSetupsAreBuilt}
use Rattle.flat_policy.specs.declared.setup.Field.TheVariants as fields
use Rattle.flat_policy.specs.declared.texts.SetupFault.TheVariants as setup_faults

-- ---- what an optional value keeps

record Kept {A : Type 0} (P : A → Type 0) (o : Option A) : Type 0 where
  is : IfSome o P

then_kept : {A B : Type 0} → (P : A → Type 0) (Q : B → Type 0) (o : Option A) (f : A → Option B) → Kept P o → ((x : A) → P x → Kept Q (f x)) → Kept Q (option_and_then f o)
then_kept P Q None f h so = record { is = tt }
then_kept P Q (Some x) f h so = so x h.is

anything : {A : Type 0} → (o : Option A) → Kept (λ _. Unit {0}) o
anything None = record { is = tt }
anything (Some x) = record { is = tt }

one_more : {A : Type 0} → (P : A → Type 0) (o : Option A) (rest : Option (List A)) → Kept P o → Kept (Each P) rest → Kept (Each P) (cons_if o rest)
one_more P None rest h so = record { is = tt }
one_more P (Some x) None h so = record { is = tt }
one_more P (Some x) (Some xs) h so = record { is = (h.is, so.is) }

items_kept : {A : Type 0} → (of : Data → Option A) (P : A → Type 0) → ((d : Data) → Kept P (of d)) → (ds : Items) → Kept (Each P) (each_item of ds)
items_kept of P so no_items = record { is = tt }
items_kept of P so (item d ds) = one_more P (of d) (each_item of ds) (so d) (items_kept of P so ds)

array_kept : {A : Type 0} → (of : Data → Option A) (P : A → Type 0) → ((d : Data) → Kept P (of d)) → (d : Data) → Kept (Each P) (array_of of d)
array_kept of P so d = then_kept (λ _. Unit {0}) (Each P) (as_array d) (each_item of) (anything (as_array d)) (λ ds _. items_kept of P so ds)

counted : {A : Type 0} → (n : ℕ) (P : List A → Type 0) (xs : List A) (b : Bool) → (length xs == n) ≡ b → P xs → Kept (λ ys. OfLength n ys × P ys) (cond b (Some xs) None)
counted n P xs true e h = record { is = (eqb-true (length xs) n e, h) }
counted n P xs false e h = record { is = tt }

length_kept : {A : Type 0} → (n : ℕ) (of : Data → Option A) (P : A → Type 0) → ((d : Data) → Kept P (of d)) → (d : Data) → Kept (λ ys. OfLength n ys × Each P ys) (array_of_length n of d)
length_kept n of P so d =
    then_kept (Each P) (λ ys. OfLength n ys × Each P ys) (array_of of d) (with_length n) (array_kept of P so d)
    (λ xs h. counted n (Each P) xs (length xs == n) refl h)

weaker : {A : Type 0} → (P Q : A → Type 0) → ((x : A) → P x → Q x) → (o : Option A) → Kept P o → Kept Q o
weaker P Q so None h = record { is = tt }
weaker P Q so (Some x) h = record { is = so x h.is }

row_kept : (n : ℕ) (d : Data) → Kept (OfLength n) (array_of_length n whole_number d)
row_kept n d =
    weaker (λ ys. OfLength n ys × Each (λ (_ : ℕ). Unit {0}) ys) (OfLength n) (λ ys h. h.0) (array_of_length n whole_number d)
    (length_kept n whole_number (λ _. Unit {0}) (λ e. anything (whole_number e)) d)

rows_kept : (n : ℕ) (d : Data) → Kept (Each (OfLength n)) (rows_of n d)
rows_kept n d = array_kept (array_of_length n whole_number) (OfLength n) (row_kept n) d

times_kept : (d : Data) → Kept (Each IsThreeSixes) (times_rows d)
times_kept d =
    array_kept (array_of_length 3 (array_of_length 6 whole_number)) IsThreeSixes (length_kept 3 (array_of_length 6 whole_number) (OfLength 6) (row_kept 6)) d

-- ---- what a reading keeps

record Holds {A : Type 0} (P : A → Type 0) (r : Result A SetupFault) : Type 0 where
  is : IfOk r P

any_holds : {A : Type 0} → (r : Result A SetupFault) → Holds (λ _. Unit {0}) r
any_holds (Ok x) = record { is = tt }
any_holds (Err e) = record { is = tt }

then_holds : {A B : Type 0} → (P : A → Type 0) (Q : B → Type 0) (r : Result A SetupFault) (f : A → Result B SetupFault) → Holds P r → ((x : A) → P x → Holds Q (f x)) → Holds Q (unless_fault r f)
then_holds P Q (Ok x) f h so = so x h.is
then_holds P Q (Err e) f h so = record { is = tt }

shaped_holds : {A : Type 0} → (field : Field) (P : A → Type 0) (o : Option A) → Kept P o → Holds P (shaped field o)
shaped_holds field P None h = record { is = tt }
shaped_holds field P (Some x) h = record { is = h.is }

field_holds : {A : Type 0} → (field : Field) (key : List ℕ) (of : Data → Option A) (P : A → Type 0) (ms : Members) → ((d : Data) → Kept P (of d)) → Holds P (field_of field key of ms)
field_holds field key of P ms so =
    shaped_holds field P (option_and_then of (get_member key ms))
    (then_kept (λ _. Unit {0}) P (get_member key ms) of (anything (get_member key ms)) (λ d _. so d))

either_holds : {A : Type 0} → (P : A → Type 0) (b : Bool) (x y : Result A SetupFault) → Holds P x → Holds P y → Holds P (cond b x y)
either_holds P true x y h g = h
either_holds P false x y h g = g

-- the times, where there are some, are three rows of six for each cluster
abbrev HasTimes : Option (List (List (List ℕ))) → Type 0
HasTimes times = IfSome times (Each IsThreeSixes)

other_times : (o : Option Data) → Holds HasTimes (times_of_other o)
other_times None = record { is = tt }
other_times (Some d) = record { is = tt }

times_hold : (ms : Members) → Holds HasTimes (times_field ms)
times_hold ms =
    let rows = field_of fields.Times (codes "times") times_rows ms in
    let found : List (List (List ℕ)) → Result (Option (List (List (List ℕ)))) SetupFault = λ r. Ok (Some r) in
    either_holds HasTimes (is_version_two ms) (unless_fault rows found) (times_of_other (get_member (codes "times") ms))
    (then_holds (Each IsThreeSixes) HasTimes rows found (field_holds fields.Times (codes "times") times_rows (Each IsThreeSixes) ms times_kept) (λ r h. record { is = h }))
    (other_times (get_member (codes "times") ms))

-- the numbers of a line have the lengths of their shape
record HasShape (n : SetupNumbers) : Type 0 where
  groups : Each (OfLength 6) n.groups
  times : HasTimes n.times

numbers_hold : (ms : Members) → Holds HasShape (numbers_of ms)
numbers_hold ms =
    then_holds (λ _. Unit {0}) HasShape (field_of fields.Clusters (codes "clusters") (rows_of 2) ms) _ (any_holds (field_of fields.Clusters (codes "clusters") (rows_of 2) ms)) (λ clusters _.
    then_holds (λ _. Unit {0}) HasShape (field_of fields.Edges (codes "edges") (rows_of 5) ms) _ (any_holds (field_of fields.Edges (codes "edges") (rows_of 5) ms)) (λ edges _.
    then_holds (Each (OfLength 6)) HasShape (field_of fields.Groups (codes "groups") (rows_of 6) ms) _ (field_holds fields.Groups (codes "groups") (rows_of 6) (Each (OfLength 6)) ms (rows_kept 6)) (λ groups sixes.
    then_holds (λ _. Unit {0}) HasShape (field_of fields.Threads (codes "threads") whole_number ms) _ (any_holds (field_of fields.Threads (codes "threads") whole_number ms)) (λ threads _.
    then_holds HasTimes HasShape (times_field ms) _ (times_hold ms) (λ times tables.
    then_holds (λ _. Unit {0}) HasShape (field_of fields.Version (codes "version") whole_number ms) _ (any_holds (field_of fields.Version (codes "version") whole_number ms)) (λ version _.
    record { is = record { groups = sixes; times = tables } }))))))

-- ---- numbers in range make a setup

ordinary_built : (clusters edges groups : List (List ℕ)) (threads version : ℕ) → Each (OfLength 6) groups → first_out_of_range clusters edges groups threads version ≡ None → IsSetup (parts_of clusters edges groups threads)
ordinary_built clusters edges groups threads version sixes none =
    let count = length-map clusters cluster_of_row in
    let five = none_out fields.Clusters fields.Edges fields.Groups fields.Threads fields.Version
    (clusters_in_range clusters) (edges_in_range (length clusters) edges) (groups_in_range (length clusters) groups) (threads_in_range threads) (version == 1) none in
    let k = clusters_in clusters five.first in
    let e = edges_in (length clusters) edges five.second in
    let g = groups_in (length clusters) groups sixes five.third in
    let n = threads_in threads five.fourth in
    record {
      clusters_least = omega (arith, count, k.least);
      clusters_most = omega (arith, count, k.most);
      clusters = k.each;
      actors_least = k.actors_least;
      actors_most = k.actors_most;
      edges_most = omega (arith, length-map edges edge_of_row, e.most);
      edges = rw count e.each;
      ends = e.ends;
      groups_least = g.least;
      groups_most = g.most;
      groups = rw count g.each;
      threads_least = n.0;
      threads_most = n.1;
      times_each = length-map clusters (λ _. map times_of_version_one all_buckets) ∙ sym count;
      times = all_of IsClusterTimes (map (λ _. map times_of_version_one all_buckets) clusters) (each_ordinary clusters);
      version = inl refl;
      ordinary = λ _. sym (map-map (λ _. map times_of_version_one all_buckets) cluster_of_row clusters);
    }

timed_built : (clusters edges groups : List (List ℕ)) (threads : ℕ) (times : List (List (List ℕ))) → Each (OfLength 6) groups → Each IsThreeSixes times → first_out_of_range_timed clusters edges groups threads times ≡ None
    → IsSetup (parts_of_timed clusters edges groups threads times)
timed_built clusters edges groups threads times sixes tables none =
    let count = length-map clusters cluster_of_row in
    let five = none_out fields.Clusters fields.Edges fields.Groups fields.Threads fields.Times
    (clusters_in_range clusters) (edges_in_range (length clusters) edges) (groups_in_range (length clusters) groups) (threads_in_range threads) (times_in_range (length clusters) times) none in
    let k = clusters_in clusters five.first in
    let e = edges_in (length clusters) edges five.second in
    let g = groups_in (length clusters) groups sixes five.third in
    let n = threads_in threads five.fourth in
    let t = and_parts (length times == length clusters) (list_all is_times_row times) five.fifth in
    let of_rows = λ (rows : List (List ℕ)). map (times_of_rows rows) (numbers_below 6) in
    record {
      clusters_least = omega (arith, count, k.least);
      clusters_most = omega (arith, count, k.most);
      clusters = k.each;
      actors_least = k.actors_least;
      actors_most = k.actors_most;
      edges_most = omega (arith, length-map edges edge_of_row, e.most);
      edges = rw count e.each;
      ends = e.ends;
      groups_least = g.least;
      groups_most = g.most;
      groups = rw count g.each;
      threads_least = n.0;
      threads_most = n.1;
      times_each = length-map times of_rows ∙ eqb-true (length times) (length clusters) t.0 ∙ sym count;
      times = all_of IsClusterTimes (map of_rows times) (each_times times tables t.1);
      version = inr refl;
      ordinary = λ one. absurd (omega (arith, one));
    }

range_holds : (o : Option Field) (parts : SetupParts) → (o ≡ None → IsSetup parts) → Holds IsSetup (in_range o parts)
range_holds None parts so = record { is = so refl }
range_holds (Some field) parts so = record { is = tt }

setup_holds : (n : SetupNumbers) (times : Option (List (List (List ℕ)))) → Each (OfLength 6) n.groups → HasTimes times → Holds IsSetup (setup_of n times)
setup_holds n None sixes tables =
    range_holds (first_out_of_range n.clusters n.edges n.groups n.threads n.version) (parts_of n.clusters n.edges n.groups n.threads)
    (ordinary_built n.clusters n.edges n.groups n.threads n.version sixes)
setup_holds n (Some times) sixes tables =
    range_holds (first_out_of_range_timed n.clusters n.edges n.groups n.threads times) (parts_of_timed n.clusters n.edges n.groups n.threads times)
    (timed_built n.clusters n.edges n.groups n.threads times sixes tables)

-- ---- a line

object_holds : (ms : Members) → Holds IsSetup (setup_of_object ms)
object_holds ms =
    let setup = λ (n : SetupNumbers). setup_of n n.times in
    let whole : Result SetupParts SetupFault = Err (setup_faults.Shape fields.Whole) in
    either_holds IsSetup (only_keys ms) (unless_fault (numbers_of ms) setup) whole
    (then_holds HasShape IsSetup (numbers_of ms) setup (numbers_hold ms) (λ n h. setup_holds n n.times h.groups h.times)) (record { is = tt })

members_hold : (o : Option Members) → Holds IsSetup (setup_of_members o)
members_hold None = record { is = tt }
members_hold (Some ms) = object_holds ms

json_holds : (o : Option Data) → Holds IsSetup (setup_of_json o)
json_holds None = record { is = tt }
json_holds (Some d) = members_hold (as_object d)

pub read_setups_built : ReadSetupsAreBuilt
read_setups_built = λ line s is.
    let read : Holds IsSetup (read_setup_text line) = json_holds (json_of line) in
    subst (λ (r : Result SetupParts SetupFault). IfOk r IsSetup) is read.is
