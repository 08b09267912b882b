-- The JSON of the lines computes.
use Rattle.std.proofs.Common.{rules}
use Rattle.std.specs.Str.{chars, is_utf8}
use Rattle.serde_json.proofs.OnLiterals.{serde_json_on_literals}
use Rattle.worked_examples.proofs.examples.setup_readings.Goals as goal

pub returns : goal.returns
unfolding chars is_utf8 serde_json_on_literals
returns c = search rules
