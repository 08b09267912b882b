use Rattle.std.proofs.Common.{map}
use Rattle.flat_policy.specs.Texts.SetupLines.{edge_text}
use Rattle.setup_json.proofs.Joins.{IsBegun}
use Rattle.setup_json.proofs.writer.push_edges.Given as goal

abbrev pub invariant-loop-k : goal.invariant-loop-k
invariant-loop-k l = IsBegun l.fn.text.items (map edge_text l.s.edges) l.k l.text.items
