use Rattle.std.proofs.Common.{◌∙◌}
use Rattle.setup_json.proofs.Meanings.{keys_are_fields}
use Rattle.setup_json.proofs.numbers.has_only_keys.Goals as goal

pub returns : goal.returns
returns c = c.are_fields.ensures ∙ keys_are_fields c.args.members.now.entries
