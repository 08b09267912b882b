use Rattle.std.proofs.Common.{decimal, map}
use Rattle.setup_json.proofs.Joins.{IsBegun}
use Rattle.setup_json.proofs.writer.push_numbers.Given as goal

abbrev pub invariant-loop-k : goal.invariant-loop-k
invariant-loop-k l = IsBegun l.fn.text.items (map decimal l.numbers) l.k l.text.items
