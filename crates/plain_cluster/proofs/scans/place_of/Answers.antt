use Rattle.std.proofs.Common.{sym, ◌∙◌}
use Rattle.plain_cluster.proofs.Standing.{stands_here, stands_later}
use Rattle.plain_cluster.proofs.scans.place_of.Goals as goal

pub loop-place-preserved : goal.loop-place-preserved
loop-place-preserved c =
    stands_later c.args.slot c.args.arrival c.args.rows.now c.loop-place.place c.index-rows-place.result c.loop-place-test.true c.index-rows-place.is (sym c.is_at.ensures ∙ c.if-is_at.false) c.loop-place.invariant

pub returns-then-is_at-clause-place : goal.returns-then-is_at-clause-place
returns-then-is_at-clause-place c =
    stands_here c.args.slot c.args.arrival c.args.rows.now c.loop-place.place c.index-rows-place.result c.loop-place-test.true c.index-rows-place.is (sym c.is_at.ensures ∙ c.if-is_at.true) c.loop-place.invariant
