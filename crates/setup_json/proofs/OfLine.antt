-- No line has a fault of where it ends.
use Rattle.std.proofs.Common.{List, ℕ, Option, Some, None, Result, Ok, Err, IfErr, Bool, true, false, codes, cond, option_and_then, subst}
use Rattle.flat_policy.specs.Policy.Ranges.{first_out_of_range, first_out_of_range_timed, parts_of, parts_of_timed}
use Rattle.flat_policy.specs.Policy.Setup.{SetupParts}
use Rattle.flat_policy.specs.Texts.SetupLines.{SetupNumbers, field_of, in_range, is_version_two, json_of, numbers_of, only_keys, read_setup_text, rows_of, setup_of, setup_of_json, setup_of_members, setup_of_object, shaped, times_field, times_of_other, times_rows, unless_fault, whole_number}
use Rattle.flat_policy.specs.declared.setup.Field.{Field}
use Rattle.flat_policy.specs.declared.texts.SetupFault.{SetupFault}
use Rattle.serde_json.specs.Data.{Data, Members}
use Rattle.serde_json.specs.Find.{as_object, get_member}
use Rattle.setup_json.specs.Reads.{Fails, IsOfLine, IsOfLineError, Reads}
use Rattle.setup_json.specs.declared.fault.SetupError.{SetupError}
use Rattle.flat_policy.specs.declared.setup.Field.TheVariants as fields
use Rattle.flat_policy.specs.declared.texts.SetupFault.TheVariants as setup_faults
use Rattle.setup_json.specs.declared.fault.SetupError.TheVariants as errors

record Sure {A : Type 0} (r : Result A SetupFault) : Type 0 where
  is : IfErr r IsOfLine

of_shape : {A : Type 0} → (field : Field) (o : Option A) → Sure (shaped field o)
of_shape field None = record { is = tt }
of_shape field (Some x) = record { is = tt }

of_ok : {A : Type 0} → (x : A) → Sure (Ok x)
of_ok x = record { is = tt }

of_next : {A B : Type 0} → (r : Result A SetupFault) (f : A → Result B SetupFault) → Sure r → ((x : A) → Sure (f x)) → Sure (unless_fault r f)
of_next (Ok x) f h g = g x
of_next (Err e) f h g = record { is = h.is }

of_range : (first : Option Field) (parts : SetupParts) → Sure (in_range first parts)
of_range None parts = of_ok parts
of_range (Some field) parts = record { is = tt }

of_choice : {A : Type 0} → (b : Bool) (x y : Result A SetupFault) → Sure x → Sure y → Sure (cond b x y)
of_choice true x y h g = h
of_choice false x y h g = g

abbrev TimesFound : Type 0
TimesFound = Option (List (List (List ℕ)))

of_other_times : (o : Option Data) → Sure (times_of_other o)
of_other_times None = of_ok {A = TimesFound} None
of_other_times (Some d) = record { is = tt }

of_times : (ms : Members) → Sure (times_field ms)
of_times ms =
    let rows = field_of fields.Times (codes "times") times_rows ms in
    let found : List (List (List ℕ)) → Result TimesFound SetupFault = λ r. Ok (Some r) in
    of_choice (is_version_two ms) (unless_fault rows found) (times_of_other (get_member (codes "times") ms))
    (of_next rows found (of_shape fields.Times (option_and_then times_rows (get_member (codes "times") ms))) (λ r. of_ok {A = TimesFound} (Some r)))
    (of_other_times (get_member (codes "times") ms))

of_numbers : (ms : Members) → Sure (numbers_of ms)
of_numbers ms =
    of_next (field_of fields.Clusters (codes "clusters") (rows_of 2) ms) _ (of_shape fields.Clusters (option_and_then (rows_of 2) (get_member (codes "clusters") ms))) (λ clusters.
    of_next (field_of fields.Edges (codes "edges") (rows_of 5) ms) _ (of_shape fields.Edges (option_and_then (rows_of 5) (get_member (codes "edges") ms))) (λ edges.
    of_next (field_of fields.Groups (codes "groups") (rows_of 6) ms) _ (of_shape fields.Groups (option_and_then (rows_of 6) (get_member (codes "groups") ms))) (λ groups.
    of_next (field_of fields.Threads (codes "threads") whole_number ms) _ (of_shape fields.Threads (option_and_then whole_number (get_member (codes "threads") ms))) (λ threads.
    of_next (times_field ms) _ (of_times ms) (λ times.
    of_next (field_of fields.Version (codes "version") whole_number ms) _ (of_shape fields.Version (option_and_then whole_number (get_member (codes "version") ms))) (λ version.
    of_ok (record { clusters = clusters; edges = edges; groups = groups; threads = threads; times = times; version = version })))))))

of_setup : (n : SetupNumbers) (times : Option (List (List (List ℕ)))) → Sure (setup_of n times)
of_setup n None = of_range (first_out_of_range n.clusters n.edges n.groups n.threads n.version) (parts_of n.clusters n.edges n.groups n.threads)
of_setup n (Some times) = of_range (first_out_of_range_timed n.clusters n.edges n.groups n.threads times) (parts_of_timed n.clusters n.edges n.groups n.threads times)

of_object : (ms : Members) → Sure (setup_of_object ms)
of_object ms =
    let setup = λ (n : SetupNumbers). setup_of n n.times in
    let whole : Result SetupParts SetupFault = Err (setup_faults.Shape fields.Whole) in
    of_choice (only_keys ms) (unless_fault (numbers_of ms) setup) whole (of_next (numbers_of ms) setup (of_numbers ms) (λ n. of_setup n n.times)) (record { is = tt })

of_members : (o : Option Members) → Sure (setup_of_members o)
of_members None = record { is = tt }
of_members (Some ms) = of_object ms

of_json : (o : Option Data) → Sure (setup_of_json o)
of_json None = record { is = tt }
of_json (Some d) = of_members (as_object d)

of_error : (e : SetupError) (r : Result SetupParts SetupFault) → Sure r → Fails e r → IsOfLineError e
of_error errors.Memory r h is = tt
of_error (errors.Fault fault) r h is = let found : Sure {A = SetupParts} (Err fault) = subst (λ (s : Result SetupParts SetupFault). Sure s) is h in found.is

-- what a reader answers has its cause in the line
pub never_at_end : (line : List ℕ) (r : Result SetupParts SetupError) → Reads (λ (s : SetupParts). s) r (read_setup_text line) → IfErr r IsOfLineError
never_at_end line (Ok s) h = tt
never_at_end line (Err e) h = of_error e (read_setup_text line) (of_json (json_of line)) h
