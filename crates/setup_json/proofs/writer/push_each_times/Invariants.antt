use Rattle.std.proofs.Common.{map}
use Rattle.flat_policy.specs.Texts.SetupLines.{cluster_times_text}
use Rattle.setup_json.proofs.Joins.{IsBegun}
use Rattle.setup_json.proofs.writer.push_each_times.Given as goal

abbrev pub invariant-loop-c : goal.invariant-loop-c
invariant-loop-c l = IsBegun l.fn.text.items (map cluster_times_text l.s.times) l.c l.text.items
