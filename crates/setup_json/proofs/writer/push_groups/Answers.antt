use Rattle.std.proofs.Common.{map, ap, ◌∙◌, []}
use Rattle.flat_policy.specs.Texts.SetupLines.{numbers_text}
use Rattle.setup_json.proofs.Joins.{list_begins, list_ends, list_goes_on}
use Rattle.setup_json.proofs.Written.{below_mapped, mapped_within, past_mapped}
use Rattle.setup_json.proofs.writer.push_groups.Goals as goal

pub loop-g-init : goal.loop-g-init
loop-g-init c = list_begins _ (map numbers_text c.args.s.now.groups) _ c.in_ok-push.ensures.items

pub loop-g-preserved : goal.loop-g-preserved
loop-g-preserved c =
    list_goes_on _ (map numbers_text c.args.s.now.groups) _ _ _ _ _ c.loop-g.invariant
    (below_mapped numbers_text c.args.s.now.groups c.loop-g.g c.groups-g-end.result c.groups-g-end.ensures.count c.loop-g-test.true)
    c.in_ok-push_comma.ensures c.in_ok-push_numbers.ensures
    (ap numbers_text c.group_numbers.ensures ∙ mapped_within numbers_text c.args.s.now.groups c.loop-g.g [] c.groups-g-end.result c.groups-g-end.ensures.count c.loop-g-test.true)

pub returns : goal.returns
returns c =
    list_ends _ (map numbers_text c.args.s.now.groups) _ _ _ c.loop-g.invariant
    (past_mapped numbers_text c.args.s.now.groups c.loop-g.g c.groups-g-end.result c.groups-g-end.ensures.count c.loop-g-test.false)
    c.in_ok-push-2.ensures.items
