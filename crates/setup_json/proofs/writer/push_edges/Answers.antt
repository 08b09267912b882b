use Rattle.std.proofs.Common.{map, ◌∙◌}
use Rattle.flat_policy.specs.Texts.SetupLines.{edge_text}
use Rattle.setup_json.proofs.Joins.{list_begins, list_ends, list_goes_on}
use Rattle.setup_json.proofs.Written.{below_mapped, edge_written, past_mapped}
use Rattle.setup_json.proofs.writer.push_edges.Goals as goal

pub loop-k-init : goal.loop-k-init
loop-k-init c = list_begins _ (map edge_text c.args.s.now.edges) _ c.in_ok-push.ensures.items

pub loop-k-preserved : goal.loop-k-preserved
loop-k-preserved c =
    list_goes_on _ (map edge_text c.args.s.now.edges) _ _ _ _ _ c.loop-k.invariant
    (below_mapped edge_text c.args.s.now.edges c.loop-k.k c.edge_count-k-end.result c.edge_count-k-end.ensures.count c.loop-k-test.true)
    c.in_ok-push_comma.ensures c.in_ok-push_numbers.ensures
    (c.edge_numbers.ensures ∙ edge_written c.args.s.now.edges c.loop-k.k c.edge_at.result c.edge_at.ensures.edge)

pub returns : goal.returns
returns c =
    list_ends _ (map edge_text c.args.s.now.edges) _ _ _ c.loop-k.invariant
    (past_mapped edge_text c.args.s.now.edges c.loop-k.k c.edge_count-k-end.result c.edge_count-k-end.ensures.count c.loop-k-test.false)
    c.in_ok-push-2.ensures.items
