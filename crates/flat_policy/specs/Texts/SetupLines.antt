-- The setup line: one JSON object.
use Rattle.std.specs.List.{join_with_byte, list_any}
use Rattle.std.specs.Prelude.{Bool, Err, List, None, Ok, Option, Result, Some, [], codes, decimal, false, if◌then◌else◌, length, map, option_and_then, true, ℕ, ◌&&◌, ◌++◌, ◌==◌, ◌∷◌}
use Rattle.std.specs.Str.{is_utf8}
use Rattle.flat_policy.specs.declared.setup.EdgeSpec.{EdgeSpec}
use Rattle.flat_policy.specs.declared.setup.Field.{Field}
use Rattle.flat_policy.specs.declared.setup.Times.{Times}
use Rattle.flat_policy.specs.declared.texts.SetupFault.{SetupFault}
use Rattle.flat_policy.specs.Policy.Ranges.{first_out_of_range, first_out_of_range_timed, parts_of, parts_of_timed}
use Rattle.flat_policy.specs.Policy.Setup.{ClusterParts, SetupParts}
use Rattle.flat_policy.specs.Texts.Pieces.{same_text}
use Rattle.serde_json.specs.Data.{Data, Items, Members, item, member, no_items, no_members}
use Rattle.serde_json.specs.Find.{as_array, as_number, as_object, as_u64, get_member}
use Rattle.serde_json.specs.Read.{read}
use Rattle.flat_policy.specs.declared.texts.SetupFault.TheVariants as setup_faults
use Rattle.flat_policy.specs.declared.setup.Field.TheVariants as fields

-- a line as a JSON value, as `serde_json` reads it; bytes that are no text have no reading
abbrev pub json_of : List ℕ → Option Data
json_of line = if is_utf8 line then read line else None

-- a whole number of 64 bits
abbrev pub whole_number : Data → Option ℕ
whole_number d = option_and_then as_u64 (as_number d)

-- one more item that was read, before those read after it
abbrev pub cons_if : {A : Type 0} → Option A → Option (List A) → Option (List A)
cons_if None xs = None
cons_if (Some x) None = None
cons_if (Some x) (Some xs) = Some (x ∷ xs)

-- every item of an array, read
abbrev pub each_item : {A : Type 0} → (Data → Option A) → Items → Option (List A)
each_item of no_items = Some []
each_item of (item d ds) = cons_if (of d) (each_item of ds)

-- an array of values of one shape
abbrev pub array_of : {A : Type 0} → (Data → Option A) → Data → Option (List A)
array_of of d = option_and_then (each_item of) (as_array d)

-- a list, where it has a stated length
abbrev pub with_length : {A : Type 0} → ℕ → List A → Option (List A)
with_length n xs = if length xs == n then Some xs else None

-- an array of values of one shape and of a stated length
abbrev pub array_of_length : {A : Type 0} → ℕ → (Data → Option A) → Data → Option (List A)
array_of_length n of d = option_and_then (with_length n) (array_of of d)

-- an array of arrays of so many whole numbers
abbrev pub rows_of : ℕ → Data → Option (List (List ℕ))
rows_of n d = array_of (array_of_length n whole_number) d

-- the shape of `times`: for each cluster three arrays of six whole numbers
abbrev pub times_rows : Data → Option (List (List (List ℕ)))
times_rows d = array_of (array_of_length 3 (array_of_length 6 whole_number)) d

-- whether a key is one of the six
abbrev pub is_key : List ℕ → Bool
is_key k = list_any (same_text k) (codes "clusters" ∷ codes "edges" ∷ codes "groups" ∷ codes "threads" ∷ codes "times" ∷ codes "version" ∷ [])

-- whether an object's keys are all among the six
abbrev pub only_keys : Members → Bool
only_keys no_members = true
only_keys (member k d ms) = is_key k && only_keys ms

-- the numbers of a setup line whose shape is right
pub record SetupNumbers : Type 0 where
  pub clusters : List (List ℕ)
  pub edges : List (List ℕ)
  pub groups : List (List ℕ)
  pub threads : ℕ
  pub times : Option (List (List (List ℕ)))
  pub version : ℕ

-- going on unless there was a fault
abbrev pub unless_fault : {A B : Type 0} → Result A SetupFault → (A → Result B SetupFault) → Result B SetupFault
unless_fault (Ok x) f = f x
unless_fault (Err e) f = Err e

-- a field's value, or the fault that it hasn't its shape
abbrev pub shaped : {A : Type 0} → Field → Option A → Result A SetupFault
shaped field None = Err (setup_faults.Shape field)
shaped field (Some x) = Ok x

-- the field under a key of an object, with its shape
abbrev pub field_of : {A : Type 0} → Field → List ℕ → (Data → Option A) → Members → Result A SetupFault
field_of field key of ms = shaped field (option_and_then of (get_member key ms))

-- whether a whole number that may be there is 2
abbrev pub says_two : Option ℕ → Bool
says_two None = false
says_two (Some n) = n == 2

-- whether the value under `version` is the whole number 2
abbrev pub is_version_two : Members → Bool
is_version_two ms = says_two (option_and_then whole_number (get_member (codes "version") ms))

-- a version other than 2 has no `times`
abbrev pub times_of_other : Option Data → Result (Option (List (List (List ℕ)))) SetupFault
times_of_other None = Ok None
times_of_other (Some d) = Err (setup_faults.Shape fields.Times)

-- `times` is wrong where version 2 lacks it or it hasn't its shape, and where another version has it
abbrev pub times_field : Members → Result (Option (List (List (List ℕ)))) SetupFault
times_field ms =
    if is_version_two ms
    then unless_fault (field_of fields.Times (codes "times") times_rows ms) (λ rows. Ok (Some rows))
    else times_of_other (get_member (codes "times") ms)

-- the numbers of an object, or the first field whose shape is wrong
abbrev pub numbers_of : Members → Result SetupNumbers SetupFault
numbers_of ms =
    unless_fault (field_of fields.Clusters (codes "clusters") (rows_of 2) ms) (λ clusters.
    unless_fault (field_of fields.Edges (codes "edges") (rows_of 5) ms) (λ edges.
    unless_fault (field_of fields.Groups (codes "groups") (rows_of 6) ms) (λ groups.
    unless_fault (field_of fields.Threads (codes "threads") whole_number ms) (λ threads.
    unless_fault (times_field ms) (λ times.
    unless_fault (field_of fields.Version (codes "version") whole_number ms) (λ version.
    Ok (record { clusters = clusters; edges = edges; groups = groups; threads = threads; times = times; version = version })))))))

-- a setup, unless a field is out of its range
abbrev pub in_range : Option Field → SetupParts → Result SetupParts SetupFault
in_range None parts = Ok parts
in_range (Some field) parts = Err (setup_faults.Range field)

-- the setup of such numbers, or the first field out of its range
abbrev pub setup_of : SetupNumbers → Option (List (List (List ℕ))) → Result SetupParts SetupFault
setup_of n None =
    in_range (first_out_of_range n.clusters n.edges n.groups n.threads n.version) (parts_of n.clusters n.edges n.groups n.threads)
setup_of n (Some times) =
    in_range (first_out_of_range_timed n.clusters n.edges n.groups n.threads times) (parts_of_timed n.clusters n.edges n.groups n.threads times)

-- the setup of an object, or its first fault
abbrev pub setup_of_object : Members → Result SetupParts SetupFault
setup_of_object ms =
    if only_keys ms then unless_fault (numbers_of ms) (λ n. setup_of n n.times) else Err (setup_faults.Shape fields.Whole)

-- the setup of a value that may be an object, or its first fault
abbrev pub setup_of_members : Option Members → Result SetupParts SetupFault
setup_of_members None = Err (setup_faults.Shape fields.Whole)
setup_of_members (Some ms) = setup_of_object ms

-- the setup of a line that may be JSON, or its first fault
abbrev pub setup_of_json : Option Data → Result SetupParts SetupFault
setup_of_json None = Err setup_faults.NotJson
setup_of_json (Some d) = setup_of_members (as_object d)

-- a setup line, read
abbrev pub read_setup_text : List ℕ → Result SetupParts SetupFault
read_setup_text line = setup_of_json (json_of line)

-- texts between brackets, with commas between them
abbrev pub bracketed : List (List ℕ) → List ℕ
bracketed texts = codes "[" ++ join_with_byte 44 texts ++ codes "]"

-- numbers between brackets: plain decimals, no space
abbrev pub numbers_text : List ℕ → List ℕ
numbers_text ns = bracketed (map decimal ns)

-- a truth value as a number
abbrev pub flag_number : Bool → ℕ
flag_number true = 1
flag_number false = 0

-- the text of a cluster
abbrev pub cluster_text : ClusterParts → List ℕ
cluster_text c = numbers_text (c.cpus ∷ c.rate ∷ [])

-- the text of an edge
abbrev pub edge_text : EdgeSpec → List ℕ
edge_text e = numbers_text (e.from ∷ e.to ∷ e.weight ∷ flag_number e.migrate ∷ e.steal ∷ [])

-- the text of the times of a cluster
abbrev pub cluster_times_text : List Times → List ℕ
cluster_times_text ts = bracketed (
    numbers_text (map (λ (t : Times). t.wcel) ts)
    ∷ numbers_text (map (λ (t : Times). t.warp) ts)
    ∷ numbers_text (map (λ (t : Times). t.quantum) ts) ∷ [])

-- the member of the times, which version 2 has and no other
abbrev pub times_member : SetupParts → List ℕ
times_member setup =
    if setup.version == 2 then codes ",\"times\":" ++ bracketed (map cluster_times_text setup.times) else []

-- the canonical text of a setup: the keys in order, plain decimal numbers, no space
abbrev pub setup_text : SetupParts → List ℕ
setup_text setup =
    codes "{\"clusters\":" ++ bracketed (map cluster_text setup.clusters)
    ++ codes ",\"edges\":" ++ bracketed (map edge_text setup.edges)
    ++ codes ",\"groups\":" ++ bracketed (map numbers_text setup.groups)
    ++ codes ",\"threads\":" ++ decimal setup.threads
    ++ times_member setup
    ++ codes ",\"version\":" ++ decimal setup.version ++ codes "}"
