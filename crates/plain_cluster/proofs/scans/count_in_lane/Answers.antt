use Rattle.std.proofs.Common.{arith, sym, ◌∙◌}
use Rattle.flat_policy.specs.Policy.Queue.{in_lane}
use Rattle.plain_cluster.proofs.Scanned.{counted_no, counted_yes}
use Rattle.plain_cluster.proofs.scans.count_in_lane.Goals as goal
use Rattle.plain_cluster.proofs.scans.count_in_lane.Goals.{then-in_lane, else-in_lane}

pub loop-row-preserved : goal.loop-row-preserved
loop-row-preserved c =
    elim c.if-in_lane.branch [
      | then-in_lane w ↦ (let more = counted_yes (in_lane c.args.lane) c.args.rows.now c.loop-row.row-index c.row-item.result (omega arith) c.row-item.is (sym c.in_lane.ensures ∙ w.if-in_lane.true) in
          record { count = omega (arith, more); most = omega arith })
      | else-in_lane w ↦ (let more = counted_no (in_lane c.args.lane) c.args.rows.now c.loop-row.row-index c.row-item.result (omega arith) c.row-item.is (sym c.in_lane.ensures ∙ w.if-in_lane.false) in
          record { count = omega (arith, more); most = omega arith })
    ]
