-- The JSON of the setup line and the digits of numbers compute.
use Rattle.std.proofs.Common.{rules}
use Rattle.std.specs.Fmt.{digits}
use Rattle.std.specs.Str.{chars, is_utf8}
use Rattle.serde_json.proofs.OnLiterals.{serde_json_on_literals}
use Rattle.worked_examples.proofs.inputs.run_texts.Goals as goal

pub returns : goal.returns
unfolding chars digits is_utf8 serde_json_on_literals
returns c = search rules
