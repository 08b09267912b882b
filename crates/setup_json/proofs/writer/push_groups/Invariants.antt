use Rattle.std.proofs.Common.{map}
use Rattle.flat_policy.specs.Texts.SetupLines.{numbers_text}
use Rattle.setup_json.proofs.Joins.{IsBegun}
use Rattle.setup_json.proofs.writer.push_groups.Given as goal

abbrev pub invariant-loop-g : goal.invariant-loop-g
invariant-loop-g l = IsBegun l.fn.text.items (map numbers_text l.s.groups) l.g l.text.items
