use Rattle.std.proofs.Common.{decimal, map, length, refl}
use Rattle.setup_json.proofs.Joins.{list_begins, list_ends, list_goes_on, mapped_at}
use Rattle.setup_json.proofs.Written.{below_mapped, past_mapped}
use Rattle.setup_json.proofs.writer.push_numbers.Goals as goal

pub loop-k-init : goal.loop-k-init
loop-k-init c = list_begins _ (map decimal c.args.numbers.now) _ c.in_ok-push.ensures.items

pub loop-k-preserved : goal.loop-k-preserved
loop-k-preserved c =
    list_goes_on _ (map decimal c.args.numbers.now) _ _ _ _ _ c.loop-k.invariant
    (below_mapped decimal c.args.numbers.now c.loop-k.k (length c.args.numbers.now) refl c.loop-k-test.true)
    c.in_ok-push_comma.ensures c.in_ok-push_number.ensures
    (mapped_at decimal c.args.numbers.now c.loop-k.k 0 c.loop-k-test.true)

pub returns : goal.returns
returns c =
    list_ends _ (map decimal c.args.numbers.now) _ _ _ c.loop-k.invariant
    (past_mapped decimal c.args.numbers.now c.loop-k.k (length c.args.numbers.now) refl c.loop-k-test.false)
    c.in_ok-push-2.ensures.items
