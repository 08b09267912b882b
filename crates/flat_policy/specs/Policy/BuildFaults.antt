-- What the answers of building a setup say.
use Rattle.std.specs.Prelude.{Err, None, Ok, Option, Result, Some}
use Rattle.flat_policy.specs.Policy.Setup.{SetupParts}
use Rattle.flat_policy.specs.declared.setup.BuildError.{BuildError}
use Rattle.flat_policy.specs.declared.setup.BuildError.TheVariants.{Memory, Range}
use Rattle.flat_policy.specs.declared.setup.Field.{Field}

-- the field that the answer names as out of range
abbrev pub field_named : Result SetupParts BuildError → Option Field
field_named (Ok setup) = None
field_named (Err (Range field)) = Some field
field_named (Err Memory) = None
