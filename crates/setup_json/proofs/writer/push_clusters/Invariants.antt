use Rattle.std.proofs.Common.{map}
use Rattle.flat_policy.specs.Texts.SetupLines.{cluster_text}
use Rattle.setup_json.proofs.Joins.{IsBegun}
use Rattle.setup_json.proofs.writer.push_clusters.Given as goal

abbrev pub invariant-loop-c : goal.invariant-loop-c
invariant-loop-c l = IsBegun l.fn.text.items (map cluster_text l.s.clusters) l.c l.text.items
