-- What a reader answers, beside what the line means.
use Rattle.std.specs.Prelude.{Err, None, Ok, Option, Result, Some, ◌≡◌}
use Rattle.flat_policy.specs.declared.setup.BuildError.{BuildError}
use Rattle.flat_policy.specs.declared.texts.SetupFault.{SetupFault}
use Rattle.serde_json.specs.Data.{Data}
use Rattle.setup_json.specs.declared.fault.SetupError.{SetupError}
use Rattle.flat_policy.specs.declared.setup.BuildError.TheVariants as build_errors
use Rattle.flat_policy.specs.declared.texts.SetupFault.TheVariants as setup_faults
use Rattle.setup_json.specs.declared.fault.SetupError.TheVariants as errors

-- an error is the meaning's fault, unless memory ran out
abbrev pub Fails : {B : Type 0} → SetupError → Result B SetupFault → Type 0
Fails errors.Memory meant = Unit {0}
Fails (errors.Fault fault) meant = meant ≡ Err fault

-- what a function returned, seen by a view, is what is meant, unless memory ran out
abbrev pub Reads : {A B : Type 0} → (A → B) → Result A SetupError → Result B SetupFault → Type 0
Reads view (Ok x) meant = meant ≡ Ok (view x)
Reads view (Err e) meant = Fails e meant

-- what a setup that is not built is answered by
abbrev pub error_of_build : BuildError → SetupError
error_of_build (build_errors.Range field) = errors.Fault (setup_faults.Range field)
error_of_build build_errors.Memory = errors.Memory

-- a fault that a line has in itself, and not by where it ends
abbrev pub IsOfLine : SetupFault → Type 0
IsOfLine setup_faults.Long = ⊥
IsOfLine setup_faults.Unfinished = ⊥
IsOfLine setup_faults.NotJson = Unit {0}
IsOfLine (setup_faults.Shape field) = Unit {0}
IsOfLine (setup_faults.Range field) = Unit {0}

-- an error that is such a fault, or want of memory
abbrev pub IsOfLineError : SetupError → Type 0
IsOfLineError errors.Memory = Unit {0}
IsOfLineError (errors.Fault fault) = IsOfLine fault

-- a JSON value, or the fault that there is none
abbrev pub json_or_fault : Option Data → Result Data SetupFault
json_or_fault None = Err setup_faults.NotJson
json_or_fault (Some d) = Ok d
