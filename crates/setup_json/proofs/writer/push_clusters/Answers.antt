use Rattle.std.proofs.Common.{map}
use Rattle.flat_policy.specs.Texts.SetupLines.{cluster_text}
use Rattle.setup_json.proofs.Joins.{list_begins, list_ends, list_goes_on}
use Rattle.setup_json.proofs.Written.{below_mapped, cluster_numbers, past_mapped}
use Rattle.setup_json.proofs.writer.push_clusters.Goals as goal

pub loop-c-init : goal.loop-c-init
loop-c-init c = list_begins _ (map cluster_text c.args.s.now.clusters) _ c.in_ok-push.ensures.items

pub loop-c-preserved : goal.loop-c-preserved
loop-c-preserved c =
    list_goes_on _ (map cluster_text c.args.s.now.clusters) _ _ _ _ _ c.loop-c.invariant
    (below_mapped cluster_text c.args.s.now.clusters c.loop-c.c c.clusters-c-end.result c.clusters-c-end.ensures.count c.loop-c-test.true)
    c.in_ok-push_comma.ensures c.in_ok-push_numbers.ensures
    (cluster_numbers c.args.s.now c.loop-c.c c.cpus.result c.rate.result c.clusters-c-end.result c.clusters-c-end.ensures.count c.loop-c-test.true c.cpus.ensures.cpus c.rate.ensures.rate)

pub returns : goal.returns
returns c =
    list_ends _ (map cluster_text c.args.s.now.clusters) _ _ _ c.loop-c.invariant
    (past_mapped cluster_text c.args.s.now.clusters c.loop-c.c c.clusters-c-end.result c.clusters-c-end.ensures.count c.loop-c-test.false)
    c.in_ok-push-2.ensures.items
