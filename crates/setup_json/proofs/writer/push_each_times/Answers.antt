use Rattle.std.proofs.Common.{map, ap, ◌∙◌, [], sym}
use Rattle.flat_policy.specs.Texts.SetupLines.{cluster_times_text}
use Rattle.setup_json.proofs.Joins.{list_begins, list_ends, list_goes_on}
use Rattle.setup_json.proofs.Written.{below_mapped, mapped_within, past_mapped}
use Rattle.setup_json.proofs.writer.push_each_times.Goals as goal

pub loop-c-init : goal.loop-c-init
loop-c-init c = list_begins _ (map cluster_times_text c.args.s.now.times) _ c.in_ok-push.ensures.items

pub loop-c-preserved : goal.loop-c-preserved
loop-c-preserved c =
    list_goes_on _ (map cluster_times_text c.args.s.now.times) _ _ _ _ _ c.loop-c.invariant
    (below_mapped cluster_times_text c.args.s.now.times c.loop-c.c c.clusters-c-end.result (c.clusters-c-end.ensures.count ∙ sym c.keeps_ranges.ensures.times_each) c.loop-c-test.true)
    c.in_ok-push_comma.ensures c.in_ok-push_cluster_times.ensures
    (ap cluster_times_text c.cluster_times.ensures.times ∙ mapped_within cluster_times_text c.args.s.now.times c.loop-c.c [] c.clusters-c-end.result (c.clusters-c-end.ensures.count ∙ sym c.keeps_ranges.ensures.times_each) c.loop-c-test.true)

pub returns : goal.returns
returns c =
    list_ends _ (map cluster_times_text c.args.s.now.times) _ _ _ c.loop-c.invariant
    (past_mapped cluster_times_text c.args.s.now.times c.loop-c.c c.clusters-c-end.result (c.clusters-c-end.ensures.count ∙ sym c.keeps_ranges.ensures.times_each) c.loop-c-test.false)
    c.in_ok-push-2.ensures.items
